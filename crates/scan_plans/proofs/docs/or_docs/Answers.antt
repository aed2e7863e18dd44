use Rattle.std.proofs.Common.{◌≡◌, refl, sym, ap, ◌∙◌, subst, ℕ, ◌+◌, ◌*◌, true, List, length, map, arith}
use Rattle.std.specs.List.{All, list_any}
use Rattle.collection_model.specs.Collection.{Posting}
use Rattle.scan_plans.specs.Matches.{AreBelow, has_doc, in_any}
use Rattle.scan_plans.specs.Scan.{StandsFrom}
use Rattle.scan_plans.specs.Window.{AreMarked}
use Rattle.scan_plans.proofs.Scans.{IsNextDoc, next-doc, no-next-doc, any-bound}
use Rattle.scan_plans.proofs.Steps.{passing-leaves-less, starts-stand, all-below}
use Rattle.scan_plans.proofs.docs.or_docs.Given as given
use Rattle.scan_plans.proofs.docs.or_docs.Goals as goal
use Rattle.scan_plans.proofs.docs.or_docs.Goals.{In-Some}

-- the next document that a list has
next-known : (g : given.Over) (c : In-Some g) → IsNextDoc g.C.DocCursor.list g.C.DocCursor.place g.met.C.DocCursor.well_formed c.loop-first.cursors c.loop-first.invariant.low c.in-Some.first
next-known g c = next-doc g.C.DocCursor.list g.C.DocCursor.place g.met.C.DocCursor.well_formed c.loop-first.cursors c.loop-first.invariant.low c.in-Some.first c.loop-first.invariant.stand (sym c.least_doc.ensures ∙ c.in-Some.is)

pub loop-first-init : goal.loop-first-init
loop-first-init g c = record {
  low = 0;
  lists = refl;
  stand = starts-stand g.C.DocCursor.list g.C.DocCursor.place c.args.cursors.now c.requires.at_start;
  docs = c.new-docs.ensures.items;
  some = let same = ap length c.as_mut_slice-marks.ensures.value in let count = c.in_ok-buffer.ensures.count in omega arith;
  small = let same = ap length c.as_mut_slice-marks.ensures.value in let count = c.in_ok-buffer.ensures.count in omega arith;
  clear = subst (All (λ w. w ≡ 0)) (sym c.as_mut_slice-marks.ensures.value) c.in_ok-buffer.ensures.clear;
}

pub mark_lists-reached-requires-clause-stand : goal.mark_lists-reached-requires-clause-stand
mark_lists-reached-requires-clause-stand g c = (next-known g (goal.at.mark_lists-reached-requires-clause-stand g c).In-Some).stand

pub append_marked-requires : goal.append_marked-requires
append_marked-requires g c =
    let lists : List (List Posting) = map g.C.DocCursor.list c.loop-first.cursors in
    record {
      small = let small = c.loop-first.invariant.small in let count = c.mark_lists-reached.ensures.count in omega arith;
      within = let count = c.mark_lists-reached.ensures.count in let within = c.mark_lists-reached.ensures.within in omega arith;
      behind = λ k from inside. let count = c.mark_lists-reached.ensures.count in c.mark_lists-reached.ensures.behind k from (omega arith);
      fit = λ k within is_marked.
          let has : list_any (has_doc (c.in-Some.first + k)) lists ≡ true = sym (c.mark_lists-reached.ensures.marks k within) ∙ is_marked in
          let below = any-bound 4294967295 lists (c.in-Some.first + k) (all-below g.C.DocCursor.list g.C.DocCursor.place g.met.C.DocCursor.well_formed c.loop-first.cursors) has in
          omega arith;
    }

pub loop-first-smaller : goal.loop-first-smaller
loop-first-smaller g c =
    let next = next-known g (goal.at.loop-first-smaller g c).In-Some in
    passing-leaves-less g.C.DocCursor.list g.C.DocCursor.place g.met.C.DocCursor.well_formed c.in-Some.first (c.in-Some.first + 64 * length c.loop-first.marks) c.loop-first.cursors c.mark_lists-reached.new.cursors (omega (arith, c.loop-first.invariant.some)) c.mark_lists-reached.ensures.lists next.stand c.mark_lists-reached.ensures.stand next.at

pub loop-first-preserved : goal.loop-first-preserved
loop-first-preserved g c =
    let first : ℕ = c.in-Some.first in
    let low : ℕ = c.loop-first.invariant.low in
    let same = c.loop-first.invariant.lists in
    let given : List (List Posting) = map g.C.DocCursor.list c.args.cursors.now in
    let now : List (List Posting) = map g.C.DocCursor.list c.loop-first.cursors in
    let next = next-known g (goal.at.loop-first-preserved g c).In-Some in
    let skipped : in_any low given ≡ in_any first given = subst (λ (ls : List (List Posting)). in_any low ls ≡ in_any first ls) same next.skipped in
    let marked : AreMarked given first c.mark_lists-reached.new.marks = subst (λ (ls : List (List Posting)). AreMarked ls first c.mark_lists-reached.new.marks) same c.mark_lists-reached.ensures.marks in
    let some = c.loop-first.invariant.some in
    let small = c.loop-first.invariant.small in
    let count = c.mark_lists-reached.ensures.count in
    let kept = c.append_marked.ensures.count in
    record {
      low = first + 64 * length c.mark_lists-reached.new.marks;
      lists = c.mark_lists-reached.ensures.lists ∙ same;
      stand = subst (λ (n : ℕ). All (λ x. StandsFrom (first + 64 * n) (g.C.DocCursor.list x) (g.C.DocCursor.place x)) c.mark_lists-reached.new.cursors) (sym count) c.mark_lists-reached.ensures.stand;
      docs = c.in_ok-append_marked.ensures.docs (λ d. list_any (has_doc d) given) marked (c.loop-first.invariant.docs ∙ skipped);
      some = omega arith;
      small = omega arith;
      clear = c.in_ok-append_marked.ensures.clear;
    }

pub returns : goal.returns
returns g c = λ n below.
    let lists = c.loop-first.invariant.lists in
    let low : ℕ = c.loop-first.invariant.low in
    c.loop-first.invariant.docs ∙ ap (in_any low) (sym lists)
    ∙ no-next-doc g.C.DocCursor.list g.C.DocCursor.place g.met.C.DocCursor.well_formed c.loop-first.cursors low n c.loop-first.invariant.stand (sym c.least_doc.ensures ∙ c.in_default.is) (subst (AreBelow n) (sym lists) below)
    ∙ ap (in_any n) lists
