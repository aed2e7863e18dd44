use Rattle.std.proofs.Common.{◌≡◌, ap, ◌∙◌, ℕ, ◌-◌, List, [], ◌∷◌, ◌++◌, drop, decimal, rules, arith}
use Rattle.std.proofs.lemmas.List.{append-nil}
use Rattle.std.specs.List.{flat_map}
use Rattle.query_text.specs.Lines.{space}
use Rattle.query_text.specs.Texts.{listed}
use Rattle.query_text.proofs.Written.{digits-of_32, written-more, written-none}
use Rattle.query_text.proofs.replies.write_docs.Goals as goal

pub loop-left-init : goal.loop-left-init
loop-left-init c =
    let room = c.requires.room in
    record { within = omega arith; space = omega arith; end = omega arith; count = search rules; written = written-none listed c.args.docs.now c.args.room.now }

pub write_after-at-requires-clause-room : goal.write_after-at-requires-clause-room
write_after-at-requires-clause-room c =
    let so_far = c.loop-left.invariant in
    let some = c.loop-left-test.true in
    let doc = c.from.ensures in
    let fits = c.type_inv.docs (c.loop-left.left - 1) in
    let digits = digits-of_32 c.from.result (omega arith) in
    omega arith

pub loop-left-preserved : goal.loop-left-preserved
loop-left-preserved c =
    let so_far = c.loop-left.invariant in
    let some = c.loop-left-test.true in
    let docs : List ℕ = c.args.docs.now in
    let left : ℕ = c.loop-left.left in
    let at : ℕ = c.loop-left.at in
    let i : ℕ = left - 1 in
    let doc = c.from.ensures in
    let fits = c.type_inv.docs i in
    let digits = digits-of_32 c.from.result (omega arith) in
    let start = c.write_after-at.ensures.start in
    let count = c.write_after-at.ensures.count in
    record {
      within = omega arith;
      space = omega arith;
      end = omega arith;
      count = count ∙ so_far.count;
      written = written-more listed docs 0 i left (drop c.write_after-at.result c.write_after-at.new.text) (drop at c.loop-left.room) [] (omega arith) (omega arith)
          (c.write_after-at.ensures.written ∙ ap (λ (n : ℕ). space ∷ decimal n ++ drop at c.loop-left.room) doc) so_far.written;
    }

pub returns-clause-written : goal.returns-clause-written
returns-clause-written c =
    let none : c.loop-left.left ≡ 0 = omega (arith, c.loop-left-test.false) in
    c.loop-left.invariant.written ∙ ap (λ (n : ℕ). flat_map listed (drop n c.args.docs.now) ++ []) none ∙ append-nil (flat_map listed c.args.docs.now)
