use Rattle.std.proofs.Common.{◌≡◌, refl, sym, inl, inr, ◌∙◌, ℕ, ◌*◌, List, map, get_or, arith}
use Rattle.std.proofs.lemmas.Bool.{cases_lt}
use Rattle.collection_model.specs.Collection.{Posting}
use Rattle.interval_max.proofs.Cursors.{starts-passed, later-passed}
use Rattle.interval_max.proofs.Settled.{search-moved, query-moved}
use Rattle.interval_max.proofs.pass.score_intervals.Goals as goal

pub loop-pass-init : goal.loop-pass-init
loop-pass-init g c = record {
  lists = refl;
  passed = starts-passed g.C.DocCursor.list g.C.DocCursor.place c.args.cursors.now c.requires.start;
  within = omega arith;
  ready = c.requires.ready;
  floor = refl;
  k = refl;
  n = refl;
  search = c.requires.search;
  settled = λ none j lt. absurd (omega arith);
}

pub score_next-requires-clause-query : goal.score_next-requires-clause-query
score_next-requires-clause-query g c =
    let so_far = c.loop-pass.invariant in
    query-moved c.args.top.now.n c.loop-pass.top.n (map g.C.DocCursor.list c.args.cursors.now) (map g.C.DocCursor.list c.loop-pass.cursors) c.args.weights.now (sym so_far.n) (sym so_far.lists) c.requires.query

pub score_next-requires-clause-passed : goal.score_next-requires-clause-passed
score_next-requires-clause-passed g c = later-passed g.C.DocCursor.list g.C.DocCursor.place c.loop-pass.cursors (32 * c.loop-pass.pass.at) (32 * c.next_wanted-pass.result) (omega (arith, c.next_wanted-pass.ensures.order)) c.loop-pass.invariant.passed

pub score_next-requires-clause-search : goal.score_next-requires-clause-search
score_next-requires-clause-search g c =
    let so_far = c.loop-pass.invariant in
    let lists : List (List Posting) = map g.C.DocCursor.list c.loop-pass.cursors in
    c.next_wanted-pass.ensures.search lists c.args.weights.now
    (search-moved c.args.top.now.n c.loop-pass.top.n c.args.top.now.k c.loop-pass.top.k (map g.C.DocCursor.list c.args.cursors.now) lists c.args.weights.now c.loop-pass.bounds c.loop-pass.top.held (sym so_far.n) (sym so_far.k) (sym so_far.lists) so_far.search)

pub loop-pass-preserved : goal.loop-pass-preserved
loop-pass-preserved g c =
    let so_far = c.loop-pass.invariant in
    let step = c.score_next.ensures in
    let skip = c.next_wanted-pass.ensures in
    let v : ℕ = c.loop-pass.pass.at in
    let wanted : ℕ = c.next_wanted-pass.result in
    let middle : List ℕ = c.next_wanted-pass.new.bounds in
    let new : List ℕ = c.score_next.new.bounds in
    record {
      lists = step.lists ∙ so_far.lists;
      passed = step.passed;
      within = omega (arith, step.within, c.loop-pass.auto.bounds, c.next_wanted-pass.auto.bounds);
      ready = step.ready;
      floor = step.floor ∙ so_far.floor;
      k = step.k ∙ so_far.k;
      n = step.n ∙ so_far.n;
      search = search-moved c.loop-pass.top.n c.args.top.now.n c.loop-pass.top.k c.args.top.now.k (map g.C.DocCursor.list c.loop-pass.cursors) (map g.C.DocCursor.list c.args.cursors.now) c.args.weights.now new c.score_next.new.top.held so_far.n so_far.k so_far.lists step.search;
      settled = λ none j lt. elim (cases_lt j wanted) as (λ _. get_or new j 0 ≡ 0) [
        | inr after ↦ step.settled.settled j after lt
        | inl before ↦ step.settled.before j before ∙ elim (cases_lt j v) as (λ _. get_or middle j 0 ≡ 0) [
          | inl early ↦ skip.before j early ∙ so_far.settled none j early
          | inr late ↦ (skip.settled (so_far.floor ∙ none)).settled j late before
        ]
      ];
    }
