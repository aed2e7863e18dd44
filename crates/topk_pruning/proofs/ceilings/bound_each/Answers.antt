use Rattle.std.proofs.Common.{◌≡◌, refl, ap, ◌∙◌, ℕ, ◌≤◌, List, map, get_or, arith}
use Rattle.collection_model.specs.Collection.{Posting}
use Rattle.scan_plans.specs.Matches.{freq_of_doc}
use Rattle.topk_pruning.specs.declared.term.Term.{Term}
use Rattle.topk_pruning.specs.Terms.{list_of}
use Rattle.topk_pruning.proofs.Moves.{list-read, term-inside}
use Rattle.topk_pruning.proofs.Near.{set-more, set-all, share-under}
use Rattle.topk_pruning.proofs.Windows.{no_term}
use Rattle.topk_pruning.proofs.ceilings.bound_each.Goals as goal

pub loop-place-preserved : goal.loop-place-preserved
loop-place-preserved g c =
    let list = g.C.DocCursor.list in
    let place = g.C.DocCursor.place in
    let cs = c.args.cursors.now in
    let lists : List (List Posting) = map list cs in
    let terms : List Term = c.args.terms.now in
    let i : ℕ = c.loop-place.place in
    let t : Term = get_or terms i no_term in
    let set_to : Term = record { list = t.list; weight = t.weight; bound = c.most_under-bound.result } in
    let so_far = c.loop-place.invariant in
    let within = term-inside list place cs lists terms i no_term refl c.requires.terms.within c.loop-place-test.true in
    let least = c.min-reach.ensures in
    let next = c.saturating_add.ensures in
    let bound = c.most_under-bound.ensures in
    let reaches = c.ceiling-last.ensures.reach in
    let later = so_far.later in
    let in_range = c.requires.in_range in
    record {
      later = omega arith;
      so_far = set-more lists terms c.args.first c.loop-place.reach c.min-reach.result i c.loop-place.near set_to no_term c.loop-place-test.true (omega arith) refl (omega arith)
          (λ d after before.
          let reach : d ≤ c.ceiling-last.result.0 = omega arith in
          let most : freq_of_doc d (list c.index-cursors-term.result) ≤ c.ceiling-last.result.1 = c.ceiling-last.ensures.most d after reach in
          let same : freq_of_doc d (list c.index-cursors-term.result) ≡ freq_of_doc d (list_of lists t) = ap (λ x. freq_of_doc d (list x)) c.index-cursors-term.is ∙ ap (freq_of_doc d) (list-read list place cs lists t.list c.index-cursors-term.result refl within) in
          let under = share-under lists d c.ceiling-last.result.1 t (c.requires.terms.bounded i no_term c.loop-place-test.true) (omega arith) in
          omega arith) so_far.so_far;
    }

pub returns-clause-near : goal.returns-clause-near
returns-clause-near g c =
    let far = c.loop-place-test.false in
    let end = c.loop-place.auto.place-end in
    set-all (map g.C.DocCursor.list c.args.cursors.now) c.args.terms.now c.args.first c.loop-place.reach c.loop-place.place c.loop-place.near (omega arith) c.requires.terms c.loop-place.invariant.so_far
