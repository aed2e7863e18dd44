use Rattle.std.proofs.Common.{◌≡◌, refl, sym, ap, ◌∙◌, subst, ℕ, ◌+◌, ◌*◌, ◌<◌, ◌≤◌, true, List, length, get_or, take, map, arith}
use Rattle.std.specs.Prelude.{◌↔◌}
use Rattle.std.specs.List.{list_any, sum}
use Rattle.std.proofs.lemmas.List.{get_or_default, length-map}
use Rattle.std.proofs.lemmas.List.Elements.{AllWithin-more_set}
use Rattle.std.proofs.lemmas.List.Sums.{sum_by_more, sum_by-take-le}
use Rattle.collection_model.specs.Collection.{Posting}
use Rattle.scan_plans.specs.Matches.{has_doc, freq_of_doc, score}
use Rattle.scan_plans.specs.Scan.{HasPassed}
use Rattle.interval_max.proofs.Scores.{as-many, lists-set, rest-set, score-whole, scores-step, score-found, all-rising}
use Rattle.interval_max.proofs.run.add_all.Goals as goal

pub loop-i-init : goal.loop-i-init
loop-i-init g c = record {
  lists = refl;
  done = λ k d from within. absurd (omega arith);
  rest = λ k d from within. c.requires.passed k d within;
  count = refl;
  scored = λ k within. c.requires.clear.zero k 0 within;
  bound = λ k within. let none = c.requires.clear.zero k 0 within in omega arith;
  marks_count = refl;
}

pub seek-requires : goal.seek-requires
seek-requires g c = c.loop-i.invariant.rest c.loop-i.i c.index-cursors-i.result (omega arith) (omega arith)

-- a score so far
most : (scores weights : List ℕ) (i n k d : ℕ) → length scores ≡ n → ((k : ℕ) → k < n → get_or scores k 0 ≤ sum (take i weights) * 4294967295) → k < length scores → get_or scores k d ≤ sum (take i weights) * 4294967295
most scores weights i n k d count bound within = omega (arith, get_or_default scores k d 0 within, bound k (omega arith))

pub add_list-requires-clause-room : goal.add_list-requires-clause-room
add_list-requires-clause-room g c = λ k d within.
    let bound = most c.loop-i.scores c.args.weights.now c.loop-i.i (length c.args.window.scores.now) k d c.loop-i.invariant.count c.loop-i.invariant.bound within in
    let heavier = sum_by_more (λ w. w) c.args.weights.now c.loop-i.i 0 (omega (arith, c.requires.each, as-many g.C.DocCursor.list c.loop-i.cursors c.args.cursors.now c.loop-i.invariant.lists)) in
    let whole = sum_by-take-le (λ w. w) c.args.weights.now (c.loop-i.i + 1) in
    omega (arith, c.requires.light)

pub loop-i-preserved : goal.loop-i-preserved
loop-i-preserved g c =
    let list = g.C.DocCursor.list in
    let place = g.C.DocCursor.place in
    let so_far = c.loop-i.invariant in
    let cs = c.loop-i.cursors in
    let i : ℕ = c.loop-i.i in
    let item = c.index-cursors-i.result in
    let new = c.add_list.new.cursor in
    let first : ℕ = c.args.window.first in
    let end : ℕ = first + length c.args.window.scores.now in
    let weights : List ℕ = c.args.weights.now in
    let within : i < length cs = omega arith in
    let weighed : i < length weights = omega (arith, c.requires.each, as-many list cs c.args.cursors.now so_far.lists) in
    let count = so_far.count in
    let heavier = sum_by_more (λ w. w) weights i 0 weighed in
    let same = c.add_list.ensures.list ∙ c.seek.ensures.list in
    let added = c.add_list.ensures.added in
    record {
      lists = lists-set list place cs i new item within same ∙ so_far.lists;
      done = AllWithin-more_set cs i new within (λ x. HasPassed end (list x) (place x)) so_far.done (record { passed = λ j lt. let h = c.add_list.ensures.stand.passed j lt in omega arith });
      rest = rest-set list place (λ x. HasPassed first (list x) (place x)) cs i new so_far.rest;
      count = added.count ∙ so_far.count;
      scored = scores-step list place first i (length c.args.window.scores.now) cs c.args.cursors.now weights c.loop-i.scores c.add_list.new.window.0 item so_far.lists within weighed so_far.scored
          (λ k inside. added.scored k (omega arith) ∙ ap (λ (l : List Posting). get_or c.loop-i.scores k 0 + get_or weights i 0 * freq_of_doc (first + k) l) c.seek.ensures.list);
      bound = λ k inside. let before = so_far.bound k inside in let more = added.bound k (omega arith) in omega arith;
      marks_count = added.marks_count ∙ so_far.marks_count;
    }

pub returns-clause-passed : goal.returns-clause-passed
returns-clause-passed g c = λ k d within. c.loop-i.invariant.done k d (omega arith) (omega arith)

pub returns-clause-scored : goal.returns-clause-scored
returns-clause-scored g c =
    let list = g.C.DocCursor.list in
    let place = g.C.DocCursor.place in
    let now = c.loop-i.invariant in
    let lists : List (List Posting) = map list c.args.cursors.now in
    let weights : List ℕ = c.args.weights.now in
    let first : ℕ = c.args.window.first in
    let count = now.count in
    let each = c.requires.each in
    let many = as-many list c.loop-i.cursors c.args.cursors.now now.lists in
    let all : c.loop-i.i ≡ length lists = omega (arith, length-map c.args.cursors.now list) in
    let scored : (k : ℕ) → k < length c.loop-i.scores → get_or c.loop-i.scores k 0 ≡ score lists weights (first + k) = λ k within.
    score-whole list place (first + k) c.args.cursors.now weights c.loop-i.i (get_or c.loop-i.scores k 0) (omega arith) (now.scored k (omega arith)) in
    record {
      scored = scored;
      found = λ k within. subst (λ (s : ℕ). (0 < s) ↔ (list_any (has_doc (first + k)) lists ≡ true)) (sym (scored k within))
          (score-found lists weights (first + k) (omega arith) c.requires.some (all-rising list place g.met.C.DocCursor.well_formed c.args.cursors.now));
    }
