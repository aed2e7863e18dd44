use Rattle.std.proofs.Common.{◌≡◌, ◌≤◌, [], sym, subst, ◌∙◌, List, below_more, arith}
use Rattle.std.specs.List.{All}
use Rattle.collection_model.specs.Collection.{list_of}
use Rattle.index_reading.specs.declared.joined.Segment.{Segment}
use Rattle.index_reading.specs.JoinedSegments.{PassesAt, collections_in}
use Rattle.index_reading.proofs.Joining.{not-passed, sums-fit, too-frequent}
use Rattle.index_reading.proofs.joined.JoinedIndexes.too_frequent.Goals as goal

pub returns-then-is_some-clause-some : goal.returns-then-is_some-clause-some
returns-then-is_some-clause-some c = λ s is.
    too-frequent (collections_in c.args.self.now.segments.items) c.loop-term.term s c.passing_segment-passing.result c.loop-term.invariant
    (subst (λ (segments : List Segment). PassesAt (collections_in segments) c.loop-term.term c.passing_segment-passing.result) c.deref-in-loop-term.ensures.value c.passing_segment-passing.ensures) is

pub loop-term-preserved : goal.loop-term-preserved
loop-term-preserved c =
    below_more _ _ c.loop-term.invariant
    (not-passed (collections_in c.args.self.now.segments.items) c.loop-term.term c.passing_segment-passing.result
    (subst (λ (segments : List Segment). PassesAt (collections_in segments) c.loop-term.term c.passing_segment-passing.result) c.deref-in-loop-term.ensures.value c.passing_segment-passing.ensures)
    (sym c.is_some.ensures ∙ c.if-is_some.false))

pub returns-clause-none : goal.returns-clause-none
returns-clause-none c = λ is.
    let end : c.walked_of-walked.result ≤ c.loop-term.term = omega (arith, c.loop-term-test.false, c.loop-term.auto.term-end) in
    sums-fit (collections_in c.args.self.now.segments.items) c.walked_of-walked.result (λ t lt. c.loop-term.invariant t (omega (arith, lt, end)))
    (λ t le. subst (λ (segments : List Segment). All (λ d. list_of d t ≡ []) (collections_in segments)) c.deref-2.ensures.value (c.walked_of-walked.ensures.rest t le))
