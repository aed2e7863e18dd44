use Rattle.std.proofs.Common.{◌≡◌, ℕ, ◌≤◌, ◌+◌, ◌-◌, List, ◌++◌, take, length, ap, ◌∙◌, arith}
use Rattle.std.proofs.lemmas.Option.{IfSome_then}
use Rattle.std.proofs.lemmas.Slice.{take-put_mid}
use borrow.Rule.Slice.PartMut.{put_mid}
use Rattle.sequence_words.proofs.checking.check_step.Goals as goal

pub returns-then-not-is_empty-clause-some : goal.returns-then-not-is_empty-clause-some
returns-then-not-is_empty-clause-some c =
    let part = c.args.part in
    let from : ℕ = c.args.from in
    let old : List ℕ = c.args.to.now in
    let rest : List ℕ = c.check_part_into.new.to in
    let k : ℕ = from + part.m - from in
    let new : List ℕ = put_mid from k old rest in
    let begins : 1 ≤ length old → take (from + part.m) new ≡ take from old ++ rest = λ some.
    let within : from + part.m ≤ length old = c.requires.room some in
    take-put_mid from k old rest (from + part.m) (omega (arith, within, c.check_part_into.ensures.room)) (omega (arith, within)) in
    IfSome_then c.check_part_into.result c.check_part_into.ensures.some (λ step h. (h.0, h.1, h.2, λ some. begins some ∙ ap (λ zs. take from old ++ zs) h.3))
