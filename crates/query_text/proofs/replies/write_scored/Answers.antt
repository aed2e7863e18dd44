use Rattle.std.proofs.Common.{◌≡◌, ap, ◌∙◌, ℕ, ◌-◌, [], ◌++◌, drop, rules, arith}
use Rattle.std.proofs.lemmas.List.{append-nil}
use Rattle.std.specs.List.{flat_map}
use Rattle.query_text.specs.Texts.{scored}
use Rattle.query_text.proofs.Written.{written-more, written-none}
use Rattle.query_text.proofs.replies.write_scored.Goals as goal

pub loop-left-init : goal.loop-left-init
loop-left-init c =
    let room = c.requires.room in
    record { within = omega arith; space = omega arith; end = omega arith; count = search rules; written = written-none scored c.args.top.now c.args.room.now }

pub loop-left-preserved : goal.loop-left-preserved
loop-left-preserved c =
    let so_far = c.loop-left.invariant in
    let some = c.loop-left-test.true in
    let left : ℕ = c.loop-left.left in
    let start = c.write_pair-at.ensures.start in
    let few = c.write_pair-at.ensures.few in
    let count = c.write_pair-at.ensures.count in
    record {
      within = omega arith;
      space = omega arith;
      end = omega arith;
      count = count ∙ so_far.count;
      written = written-more scored c.args.top.now (0, 0) (left - 1) left (drop c.write_pair-at.result c.write_pair-at.new.room) (drop c.loop-left.at c.loop-left.room) [] (omega arith) (omega arith) c.write_pair-at.ensures.written so_far.written;
    }

pub returns-clause-written : goal.returns-clause-written
returns-clause-written c =
    let none : c.loop-left.left ≡ 0 = omega (arith, c.loop-left-test.false) in
    c.loop-left.invariant.written ∙ ap (λ (n : ℕ). flat_map scored (drop n c.args.top.now) ++ []) none ∙ append-nil (flat_map scored c.args.top.now)
