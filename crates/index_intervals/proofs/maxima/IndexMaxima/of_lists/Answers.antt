use Rattle.std.proofs.Common.{◌≡◌, refl, ap, subst, ℕ, ◌+◌, ◌-◌, ◌/◌, ◌≤◌, Bool, false, List, length, get_or, arith}
use Rattle.collection_model.specs.Collection.{Collection, Posting, list_of}
use Rattle.interval_max.specs.Kept.{AreMaximaIn}
use Rattle.interval_max.proofs.Kept.{all-skipped}
use Rattle.index_intervals.specs.LongLists.{has_maxima, is_long}
use Rattle.index_intervals.specs.Passed.{none-short}
use Rattle.index_intervals.proofs.maxima.IndexMaxima.of_lists.Goals as goal

pub loop-term-init : goal.loop-term-init
loop-term-init g c =
    let whole : Collection = g.S.ListSource.collection c.args.source.now in
    record {
      postings_are = refl;
      narrow = omega arith;
      holds = c.new-writer.ensures (has_maxima c.args.words whole) (list_of whole);
    }

pub loop-term-preserved : goal.loop-term-preserved
loop-term-preserved g c = record {
  postings_are = c.in_ok-postings.ensures.postings;
  narrow = c.in_ok-postings.ensures.narrow;
  holds = c.in_ok-postings.ensures.added c.loop-term.invariant.holds;
}

pub returns : goal.returns
returns g c =
    let whole : Collection = g.S.ListSource.collection c.args.source.now in
    let has : ℕ → Bool = has_maxima c.args.words whole in
    let list : ℕ → List Posting = list_of whole in
    let n : ℕ = length whole.lists in
    let t : ℕ = c.loop-term.term in
    let all : t ≤ n = omega (arith, c.walked_terms-term-end.ensures.within, c.loop-term.auto.term-end) in
    let to_all : t + (n - t) ≡ n = omega (arith, all) in
    let none : (s : ℕ) → t ≤ s → has s ≡ false = λ s from.
    none-short c.args.words whole s (ap (is_long whole.documents) (c.walked_terms-term-end.ensures.rest s (omega (arith, from, c.loop-term-test.false)))) in
    let words : List ℕ = c.loop-term.writer.words.items in
    let bytes : List ℕ = c.loop-term.writer.bytes.items in
    let holds = c.loop-term.invariant.holds in
    c.in_ok-bytes.ensures has list n (record {
      whole = holds.whole;
      maxima = subst (λ (k : ℕ). AreMaximaIn has list k (length words / 4) (λ k. get_or words k 0) bytes) to_all (all-skipped has list t (n - t) (length words / 4) (λ k. get_or words k 0) bytes holds.maxima none);
    })
