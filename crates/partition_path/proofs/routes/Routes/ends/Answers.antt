use Rattle.std.proofs.Common.{◌≡◌, ℕ, ◌-◌, ◌≤◌, ◌<◌, [], ◌∷◌, ◌++◌, length, arith}
use Rattle.std.proofs.lemmas.Grind.{common_steps}
use Rattle.partition_path.proofs.Traces.{chain-more}
use Rattle.partition_path.proofs.routes.Routes.ends.Goals as goal

pub loop-end-preserved : goal.loop-end-preserved
loop-end-preserved c =
    let t = c.args.self.now in
    let n : ℕ = length t - 1 in
    let end = c.loop-end.end in
    let some : 0 < end = c.loop-end-test.true in
    let within : end ≤ n = c.loop-end.invariant.1 in
    let pushed : c.push.new.self.items ≡ c.loop-end.ends.items ++ end ∷ [] = grind (arith, common_steps) in
    let link = c.requires.linked end some (omega (arith, within, c.requires.some)) c.loop-end.invariant.2 in
    (chain-more t c.start-end.result end n c.loop-end.ends.items c.push.new.self.items c.loop-end.invariant.0 some within c.start-end.ensures pushed, omega (arith, link.0, c.start-end.ensures, within), rw c.start-end.ensures link.1)
