use Rattle.std.proofs.Common.{◌≡◌, refl, ap, ◌∙◌, ℕ, ◌*◌, ◌/◌, ◌<◌, List, length, get_or, map, arith}
use Rattle.std.specs.List.{sum_by, zip}
use Rattle.std.proofs.lemmas.List.{length-map, take_all}
use Rattle.std.proofs.lemmas.List.Sums.{sum_by_more}
use Rattle.std.proofs.lemmas.Slice.Zip.{length-zip}
use Rattle.collection_model.specs.Collection.{Posting}
use Rattle.interval_max.specs.Intervals.{greatest_in}
use Rattle.interval_max.proofs.Raised.{interval-step, score-le}
use Rattle.interval_max.proofs.Scores.{as-many, lists-set, rest-set}
use Rattle.interval_max.proofs.bounds.raise_by_lists.Goals as goal

pub loop-i-init : goal.loop-i-init
loop-i-init g c = record {
  lists = refl;
  start = λ k d from within. c.requires.start k d within;
  least = λ v inside. omega arith;
  most = λ v inside. let none = c.requires.clear v 0 inside in omega arith;
}

pub loop-i-preserved : goal.loop-i-preserved
loop-i-preserved g c =
    let list = g.C.DocCursor.list in
    let place = g.C.DocCursor.place in
    let so_far = c.loop-i.invariant in
    let cs = c.loop-i.cursors in
    let i : ℕ = c.loop-i.i in
    let item = c.index-cursors-i.result in
    let new = c.raise_by_list.new.cursor in
    let lists : List (List Posting) = map list c.args.cursors.now in
    let weights : List ℕ = c.args.weights.now in
    let within : i < length cs = omega arith in
    let weighed : i < length weights = omega (arith, c.requires.each, as-many list cs c.args.cursors.now so_far.lists) in
    let raised = c.in_ok-raise_by_list.ensures.raised in
    record {
      lists = lists-set list place cs i new item within c.raise_by_list.ensures.list ∙ so_far.lists;
      start = rest-set list place (λ x. place x ≡ 0) cs i new so_far.start;
      least = λ v inside. interval-step list v cs lists weights i item (get_or c.loop-i.bounds v 0) (get_or c.raise_by_list.new.bounds v 0) so_far.lists within weighed (so_far.least v inside) (raised.least v (omega (arith, c.loop-i.auto.bounds)));
      most = λ v inside. let heavier = sum_by_more (λ w. w) weights i 0 weighed in let before = so_far.most v inside in let more = raised.most v (omega (arith, c.loop-i.auto.bounds)) in omega arith;
    }

pub returns-clause-bound : goal.returns-clause-bound
returns-clause-bound g c = λ d inside.
    let list = g.C.DocCursor.list in
    let lists : List (List Posting) = map list c.args.cursors.now in
    let weights : List ℕ = c.args.weights.now in
    let many = as-many list c.loop-i.cursors c.args.cursors.now c.loop-i.invariant.lists in
    let all = ap (sum_by (λ (e : List Posting × ℕ). e.1 * greatest_in e.0 (d / 32))) (take_all c.loop-i.i (zip lists weights) (omega (arith, length-zip lists weights, length-map c.args.cursors.now list))) in
    omega (arith, score-le lists weights d, c.loop-i.invariant.least (d / 32) inside)
