use Rattle.std.proofs.Common.{◌≡◌, refl, sym, ap, ◌∙◌, ◌≤◌, ℕ, Option, Some, None, true, false, map, set, get_or, arith}
use Rattle.std.specs.List.{All}
use Rattle.std.specs.Option.{IfNone}
use Rattle.std.proofs.lemmas.List.Elements.{All-set, AllWithin-more_set}
use Rattle.scan_plans.specs.Matches.{has_doc}
use Rattle.scan_plans.specs.Scan.{doc_at, HasPassed, StandsFrom, in_each}
use Rattle.scan_plans.proofs.Steps.{lists-set, moved-stands, each-false, each-true, nothing-left, next-is-later, nothing-between, has-next}
use Rattle.scan_plans.proofs.scan.seek_all.Given as given
use Rattle.scan_plans.proofs.scan.seek_all.Goals as goal
use Rattle.scan_plans.proofs.scan.seek_all.Goals.{After-next_geq}

-- the cursors once one has moved: their lists, what they have passed, and where that one stands
moved : (g : given.Over) (c : After-next_geq g) → (map g.C.DocCursor.list (set c.loop-cursor.cursors c.loop-cursor.cursor-index c.next_geq.new.self) ≡ map g.C.DocCursor.list c.args.cursors.now)
    × All (λ x. HasPassed c.args.candidate (g.C.DocCursor.list x) (g.C.DocCursor.place x)) (set c.loop-cursor.cursors c.loop-cursor.cursor-index c.next_geq.new.self)
    × StandsFrom c.args.candidate (g.C.DocCursor.list c.next_geq.new.self) (g.C.DocCursor.place c.next_geq.new.self)
moved g c =
    let list = g.C.DocCursor.list in
    let place = g.C.DocCursor.place in
    let cs = c.loop-cursor.cursors in
    let i : ℕ = c.loop-cursor.cursor-index in
    let new = c.next_geq.new.self in
    let old = get_or cs i c.cursor-item.result in
    let stands = moved-stands list place c.next_geq_is_first.ensures.first c.args.candidate old new (g.met.C.DocCursor.well_formed old) (c.loop-cursor.invariant.passed i c.cursor-item.result (omega arith)) c.next_geq.ensures.list c.next_geq.ensures.place in (
      lists-set list place cs i new c.cursor-item.result (omega arith) c.next_geq.ensures.list ∙ c.loop-cursor.invariant.lists,
      All-set (λ x. HasPassed c.args.candidate (list x) (place x)) cs i new (record { passed = stands.passed }) c.loop-cursor.invariant.passed,
      stands,
    )

pub returns-in_default-clause-lists : goal.returns-in_default-clause-lists
returns-in_default-clause-lists g c = (moved g (goal.at.returns-in_default-clause-lists g c).After-next_geq).0

pub returns-in_default-clause-passed : goal.returns-in_default-clause-passed
returns-in_default-clause-passed g c = (moved g (goal.at.returns-in_default-clause-passed g c).After-next_geq).1

pub returns-in_default-clause-later : goal.returns-in_default-clause-later
returns-in_default-clause-later g c =
    let new = c.next_geq.new.self in
    let stands = (moved g (goal.at.returns-in_default-clause-later g c).After-next_geq).2 in
    let at : doc_at (g.C.DocCursor.list new) (g.C.DocCursor.place new) ≡ Some c.in-Some.doc = sym c.doc.ensures ∙ c.in-Some.is in (
      next-is-later (g.C.DocCursor.list new) c.args.candidate (g.C.DocCursor.place new) c.in-Some.doc stands at,
      λ d from lt. each-false g.C.DocCursor.list g.C.DocCursor.place c.loop-cursor.cursors c.args.cursors.now c.loop-cursor.cursor-index new c.cursor-item.result d (omega arith) c.next_geq.ensures.list c.loop-cursor.invariant.lists
          (nothing-between (g.C.DocCursor.list new) c.args.candidate (g.C.DocCursor.place new) c.in-Some.doc d (g.met.C.DocCursor.well_formed new) stands at from lt),
    )

pub returns-in_default-2-clause-lists : goal.returns-in_default-2-clause-lists
returns-in_default-2-clause-lists g c = (moved g (goal.at.returns-in_default-2-clause-lists g c).After-next_geq).0

pub returns-in_default-2-clause-passed : goal.returns-in_default-2-clause-passed
returns-in_default-2-clause-passed g c = (moved g (goal.at.returns-in_default-2-clause-passed g c).After-next_geq).1

-- where the last document is none, so is every later one
ends-from : (o : Option ℕ) (P : Type 0) → (o ≡ None → P) → IfNone o P
ends-from None P h = h refl
ends-from (Some x) P h = tt

pub returns-in_default-2-clause-ends : goal.returns-in_default-2-clause-ends
returns-in_default-2-clause-ends g c =
    let new = c.next_geq.new.self in
    let stands = (moved g (goal.at.returns-in_default-2-clause-ends g c).After-next_geq).2 in
    ends-from c.doc.result ((d : ℕ) → c.args.candidate ≤ d → in_each d (map g.C.DocCursor.list c.args.cursors.now) ≡ false)
    (λ none d from. each-false g.C.DocCursor.list g.C.DocCursor.place c.loop-cursor.cursors c.args.cursors.now c.loop-cursor.cursor-index new c.cursor-item.result d (omega arith) c.next_geq.ensures.list c.loop-cursor.invariant.lists
    (nothing-left (g.C.DocCursor.list new) c.args.candidate (g.C.DocCursor.place new) d stands (sym c.doc.ensures ∙ none) from))

pub loop-cursor-preserved : goal.loop-cursor-preserved
loop-cursor-preserved g c =
    let new = c.next_geq.new.self in
    let known = moved g (goal.at.loop-cursor-preserved g c).After-next_geq in
    let at : doc_at (g.C.DocCursor.list new) (g.C.DocCursor.place new) ≡ Some c.args.candidate = sym c.doc.ensures ∙ c.in-Some.is ∙ ap Some c.if-doc-candidate.true in
    record {
      lists = known.0;
      passed = known.1;
      agreed = AllWithin-more_set c.loop-cursor.cursors c.loop-cursor.cursor-index new (omega arith) (λ x. has_doc c.args.candidate (g.C.DocCursor.list x) ≡ true) c.loop-cursor.invariant.agreed (has-next (g.C.DocCursor.list new) (g.C.DocCursor.place new) c.args.candidate at);
    }

pub returns-clause-agreed : goal.returns-clause-agreed
returns-clause-agreed g c = λ _. each-true g.C.DocCursor.list g.C.DocCursor.place c.loop-cursor.cursors c.args.cursors.now c.args.candidate c.loop-cursor.invariant.lists (λ k d within. c.loop-cursor.invariant.agreed k d (omega arith) (omega arith))
