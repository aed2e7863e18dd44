use Rattle.std.proofs.Common.{◌≡◌, refl, sym, ap, ◌∙◌, subst, ℕ, ◌+◌, ◌*◌, ◌<◌, ◌≤◌, true, List, length, get_or, take, map, max, arith}
use Rattle.std.specs.Prelude.{◌↔◌}
use Rattle.std.specs.List.{list_any, sum}
use Rattle.std.proofs.lemmas.List.{get_or_default, length-map, take_all}
use Rattle.std.proofs.lemmas.List.Elements.{AllWithin-more_set}
use Rattle.std.proofs.lemmas.List.Sums.{sum_by_more, sum_by-take-le}
use Rattle.collection_model.specs.Collection.{Posting}
use Rattle.scan_plans.specs.Matches.{has_doc, score}
use Rattle.scan_plans.specs.Scan.{StandsFrom}
use Rattle.scan_plans.specs.Window.{is_marked}
use Rattle.scan_plans.proofs.Found.{score-found}
use Rattle.scan_plans.proofs.Steps.{as-many, lists-set, rest-set, score-whole, all-rising}
use Rattle.scan_plans.proofs.Windows.{any-step, scores-step}
use Rattle.scan_plans.proofs.window.add_lists.Goals as goal

pub loop-i-init : goal.loop-i-init
loop-i-init g c = record {
  lists = refl;
  done = λ k d from within. absurd (omega arith);
  rest = λ k d from within. c.requires.stand k d within;
  count = refl;
  scored = λ k within. c.requires.blank.clear k 0 within;
  bound = λ k within. let none = c.requires.blank.clear k 0 within in omega arith;
  marks_count = refl;
  marked = λ k within. let same = c.requires.same in c.requires.blank.none k (omega arith);
  within = omega arith;
  behind = λ k from within. let same = c.requires.same in c.requires.blank.none k (omega arith);
}

pub add_list-requires-clause-stand : goal.add_list-requires-clause-stand
add_list-requires-clause-stand g c = c.loop-i.invariant.rest c.loop-i.i c.index-cursors-i.result (omega arith) (omega arith)

-- a score so far
most : (scores weights : List ℕ) (i n k d : ℕ) → length scores ≡ n → ((k : ℕ) → k < n → get_or scores k 0 ≤ sum (take i weights) * 4294967295) → k < length scores → get_or scores k d ≤ sum (take i weights) * 4294967295
most scores weights i n k d count bound within = omega (arith, get_or_default scores k d 0 within, bound k (omega arith))

pub add_list-requires-clause-room : goal.add_list-requires-clause-room
add_list-requires-clause-room g c = λ k d within.
    let bound = most c.loop-i.scores c.args.weights.now c.loop-i.i (length c.args.window.scores.now) k d c.loop-i.invariant.count c.loop-i.invariant.bound within in
    let heavier = sum_by_more (λ w. w) c.args.weights.now c.loop-i.i 0 (omega (arith, c.requires.each, as-many g.C.DocCursor.list c.loop-i.cursors c.args.cursors.now c.loop-i.invariant.lists)) in
    let whole = sum_by-take-le (λ w. w) c.args.weights.now (c.loop-i.i + 1) in
    omega (arith, c.requires.light)

pub loop-i-preserved : goal.loop-i-preserved
loop-i-preserved g c =
    let so_far = c.loop-i.invariant in
    let cs = c.loop-i.cursors in
    let i : ℕ = c.loop-i.i in
    let item = c.index-cursors-i.result in
    let new = c.add_list.new.cursor in
    let weights : List ℕ = c.args.weights.now in
    let within : i < length cs = omega arith in
    let weighed : i < length weights = omega (arith, c.requires.each, as-many g.C.DocCursor.list cs c.args.cursors.now so_far.lists) in
    let count = so_far.count in
    let heavier = sum_by_more (λ w. w) weights i 0 weighed in
    let most : c.max-reached.result ≡ max c.add_list.result c.loop-i.reached = c.max-reached.ensures in
    let behind-old = so_far.within in
    let behind-new = c.add_list.ensures.added.within in
    record {
      lists = lists-set g.C.DocCursor.list g.C.DocCursor.place cs i new item within c.add_list.ensures.list ∙ so_far.lists;
      done = AllWithin-more_set cs i new within (λ x. StandsFrom (c.args.window.first + length c.args.window.scores.now) (g.C.DocCursor.list x) (g.C.DocCursor.place x)) so_far.done
          (subst (λ (n : ℕ). StandsFrom (c.args.window.first + n) (g.C.DocCursor.list new) (g.C.DocCursor.place new)) so_far.count c.add_list.ensures.stand);
      rest = rest-set g.C.DocCursor.list g.C.DocCursor.place (λ x. StandsFrom c.args.window.first (g.C.DocCursor.list x) (g.C.DocCursor.place x)) cs i new so_far.rest;
      count = c.add_list.ensures.added.count ∙ so_far.count;
      scored = scores-step g.C.DocCursor.list g.C.DocCursor.place c.args.window.first i (length c.args.window.scores.now) cs c.args.cursors.now weights c.loop-i.scores c.add_list.new.window.0 item so_far.lists within weighed so_far.scored
          (λ k inside. c.add_list.ensures.added.scored k (omega arith));
      marks_count = c.add_list.ensures.added.marks_count ∙ so_far.marks_count;
      marked = λ k inside. any-step g.C.DocCursor.list (c.args.window.first + k) i cs (map g.C.DocCursor.list c.args.cursors.now) item (is_marked c.loop-i.marks k) (is_marked c.add_list.new.window.1.0 k) so_far.lists within (so_far.marked k inside)
          (c.add_list.ensures.added.marked k (omega arith));
      bound = λ k inside. let before = so_far.bound k inside in let more = c.add_list.ensures.added.bound k (omega arith) in omega arith;
      within = omega arith;
      behind = λ k from inside. c.add_list.ensures.added.behind k (omega arith) ∙ so_far.behind k (omega arith) inside;
    }

pub returns : goal.returns
returns g c =
    let now = c.loop-i.invariant in
    let lists : List (List Posting) = map g.C.DocCursor.list c.args.cursors.now in
    let count = now.count in
    let marks_count = now.marks_count in
    let whole = c.requires.same in
    let each = c.requires.each in
    let many = as-many g.C.DocCursor.list c.loop-i.cursors c.args.cursors.now now.lists in
    let all : c.loop-i.i ≡ length lists = omega (arith, length-map c.args.cursors.now g.C.DocCursor.list) in
    let scored : (k : ℕ) → k < length c.loop-i.scores → get_or c.loop-i.scores k 0 ≡ score lists c.args.weights.now (c.args.window.first + k) = λ k within.
    score-whole g.C.DocCursor.list g.C.DocCursor.place (c.args.window.first + k) c.args.cursors.now c.args.weights.now c.loop-i.i (get_or c.loop-i.scores k 0) (omega arith) (now.scored k (omega arith)) in
    record {
      lists = now.lists;
      stand = λ k d within. now.done k d (omega arith) (omega arith);
      filled = record {
        count = count;
        marks_count = marks_count;
        scored = record {
          scored = scored;
          found = λ k within. subst (λ (s : ℕ). (0 < s) ↔ (list_any (has_doc (c.args.window.first + k)) lists ≡ true)) (sym (scored k within))
              (score-found lists c.args.weights.now (c.args.window.first + k) (omega arith) c.requires.some (all-rising g.C.DocCursor.list g.C.DocCursor.place g.met.C.DocCursor.well_formed c.args.cursors.now));
        };
        marked = λ k within. now.marked k (omega arith) ∙ ap (list_any (has_doc (c.args.window.first + k))) (take_all c.loop-i.i lists (omega arith));
        bound = λ k d within.
            let bound = most c.loop-i.scores c.args.weights.now c.loop-i.i (length c.args.window.scores.now) k d count now.bound within in
            omega (arith, sum_by-take-le (λ w. w) c.args.weights.now c.loop-i.i, c.requires.light);
        within = now.within;
        behind = now.behind;
      };
    }
