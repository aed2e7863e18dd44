use Rattle.std.proofs.Common.{◌≡◌, refl, ap, ◌∙◌, subst, ℕ, ◌+◌, ◌*◌, ◌<◌, List, length, map, max, arith}
use Rattle.std.specs.List.{list_any}
use Rattle.std.proofs.lemmas.List.{length-map, take_all}
use Rattle.std.proofs.lemmas.List.Elements.{AllWithin-more_set}
use Rattle.collection_model.specs.Collection.{Posting}
use Rattle.scan_plans.specs.Matches.{has_doc}
use Rattle.scan_plans.specs.Scan.{StandsFrom}
use Rattle.scan_plans.proofs.Steps.{lists-set, rest-set}
use Rattle.scan_plans.specs.Window.{is_marked}
use Rattle.scan_plans.proofs.Marks.{unmarked}
use Rattle.scan_plans.proofs.Windows.{any-step}
use Rattle.scan_plans.proofs.window.mark_lists.Goals as goal

pub loop-cursor-init : goal.loop-cursor-init
loop-cursor-init g c = record {
  lists = refl;
  done = λ k d from within. absurd (omega arith);
  rest = λ k d from within. c.requires.stand k d within;
  count = refl;
  marked = unmarked c.args.marks.now c.requires.clear;
  within = omega arith;
  behind = λ k from within. unmarked c.args.marks.now c.requires.clear k within;
}

pub mark_list-requires-clause-stand : goal.mark_list-requires-clause-stand
mark_list-requires-clause-stand g c = c.loop-cursor.invariant.rest c.loop-cursor.cursor-index c.cursor-item.result (omega arith) (omega arith)

pub loop-cursor-preserved : goal.loop-cursor-preserved
loop-cursor-preserved g c =
    let so_far = c.loop-cursor.invariant in
    let cs = c.loop-cursor.cursors in
    let i : ℕ = c.loop-cursor.cursor-index in
    let item = c.cursor-item.result in
    let new = c.mark_list.new.cursor in
    let within : i < length cs = omega arith in
    let count = so_far.count in
    let most : c.max-reached.result ≡ max c.mark_list.result c.loop-cursor.reached = c.max-reached.ensures in
    let behind-old = so_far.within in
    let behind-new = c.mark_list.ensures.within in
    record {
      lists = lists-set g.C.DocCursor.list g.C.DocCursor.place cs i new item within c.mark_list.ensures.list ∙ so_far.lists;
      done = AllWithin-more_set cs i new within (λ x. StandsFrom (c.args.first + 64 * length c.args.marks.now) (g.C.DocCursor.list x) (g.C.DocCursor.place x)) so_far.done
          (subst (λ (n : ℕ). StandsFrom (c.args.first + 64 * n) (g.C.DocCursor.list new) (g.C.DocCursor.place new)) so_far.count c.mark_list.ensures.stand);
      rest = rest-set g.C.DocCursor.list g.C.DocCursor.place (λ x. StandsFrom c.args.first (g.C.DocCursor.list x) (g.C.DocCursor.place x)) cs i new so_far.rest;
      count = c.mark_list.ensures.count ∙ so_far.count;
      marked = λ k inside. any-step g.C.DocCursor.list (c.args.first + k) i cs (map g.C.DocCursor.list c.args.cursors.now) item (is_marked c.loop-cursor.marks k) (is_marked c.mark_list.new.marks k) so_far.lists within (so_far.marked k inside)
          (c.mark_list.ensures.marks k (omega arith));
      within = omega arith;
      behind = λ k from inside. c.mark_list.ensures.behind k (omega arith) (omega arith) ∙ so_far.behind k (omega arith) inside;
    }

pub returns-clause-stand : goal.returns-clause-stand
returns-clause-stand g c = λ k d within. c.loop-cursor.invariant.done k d (omega arith) (omega arith)

pub returns-clause-marks : goal.returns-clause-marks
returns-clause-marks g c = λ k within.
    let lists : List (List Posting) = map g.C.DocCursor.list c.args.cursors.now in
    let same = ap length c.loop-cursor.invariant.lists in
    c.loop-cursor.invariant.marked k (omega (arith, c.loop-cursor.invariant.count)) ∙ ap (list_any (has_doc (c.args.first + k))) (take_all c.loop-cursor.cursor-index lists (omega (arith, length-map c.loop-cursor.cursors g.C.DocCursor.list)))

pub returns-clause-within : goal.returns-clause-within
returns-clause-within g c = c.loop-cursor.invariant.within

pub returns-clause-behind : goal.returns-clause-behind
returns-clause-behind g c = c.loop-cursor.invariant.behind
