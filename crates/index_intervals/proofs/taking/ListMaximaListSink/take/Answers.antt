use Rattle.std.proofs.Common.{◌≡◌, sym, ap, ◌∙◌, ◌+◌, List, ℕ, true, take, arith}
use Rattle.std.proofs.lemmas.Bool.{false≢true}
use Rattle.collection_model.specs.Collection.{Posting, list_of}
use Rattle.collection_model.specs.Sequences.{doc_sequence, freq_sequence, postings_in}
use Rattle.index_intervals.specs.LongLists.{has_maxima}
use Rattle.index_intervals.specs.Passed.{held-passed, not-long-passed}
use Rattle.index_intervals.proofs.Taken.{counted, cursor-list, docs-count, given, head-long, list-good, most, on-ok, paid, sums-count, unpaid, within}
use Rattle.index_intervals.proofs.taking.ListMaximaListSink.take.Goals as goal
use Rattle.index_intervals.proofs.taking.ListMaximaListSink.take.Goals.{then-self-via-then-self, then-self-via-else-self+then-not-is_long}

pub returns-then-self : goal.returns-then-self
returns-then-self c = λ col took of docs_are sums_are. elim c.then-self.branch [
  | then-self-via-then-self w ↦ (λ good kept. absurd (false≢true (sym kept ∙ w.if-self.true)))
  | then-self-via-else-self+then-not-is_long w ↦ not-long-passed c.args.self.now col c.args.head.term took (head-long c.args.head col w.is_long.result of w.is_long.ensures ∙ w.if-not-is_long.true)
]

pub returns-then-postings-self : goal.returns-then-postings-self
returns-then-postings-self c = λ col took of docs_are sums_are good kept.
    let t : ℕ = c.args.head.term in
    let h = took good kept in
    let long = head-long c.args.head col true of (sym c.if-not-is_long.false ∙ c.is_long.ensures) in
    let p : ℕ = c.in-Some.postings in
    let is : p ≡ c.args.self.now.postings + c.args.head.postings = omega (arith, c.in-Some.ensures, c.from.ensures) in
    record {
      postings = counted col t c.args.head.postings long of.postings c.args.self.now p h is;
      maxima = held-passed c.args.self.now.words col t c.args.self.now.writer h.maxima (unpaid col t c.args.head.postings long of.postings c.args.self.now p h is (omega (arith, c.if-postings-self.true)));
    }

pub slice_bounds-add_sequences-end-2 : goal.slice_bounds-add_sequences-end-2
slice_bounds-add_sequences-end-2 c =
    let m : ℕ = c.args.head.postings in
    let list : List Posting = c.requires.0 in
    let is = c.requires.1 in
    let docs : take m c.deref.result.now ≡ doc_sequence list = ap (take m) c.deref.ensures.value ∙ is.docs in
    let sums : take m c.deref-2.result.now ≡ freq_sequence list = ap (take m) c.deref-2.ensures.value ∙ is.sums in
    is.postings ∙ sym (sums-count c.args.head.documents list is.well_formed (take m c.deref.result.now) (take m c.deref-2.result.now) docs sums)

pub add_sequences-added-requires-clause-each : goal.add_sequences-added-requires-clause-each
add_sequences-added-requires-clause-each c =
    let m : ℕ = c.args.head.postings in
    let list : List Posting = c.requires.0 in
    let is = c.requires.1 in
    let docs : take m c.deref.result.now ≡ doc_sequence list = ap (take m) c.deref.ensures.value ∙ is.docs in
    let sums : take m c.deref-2.result.now ≡ freq_sequence list = ap (take m) c.deref-2.ensures.value ∙ is.sums in
    sums-count c.args.head.documents list is.well_formed (take m c.deref.result.now) (take m c.deref-2.result.now) docs sums
    ∙ sym (docs-count c.args.head.documents list is.well_formed (take m c.deref.result.now) (take m c.deref-2.result.now) docs sums)

pub add_sequences-added-requires-clause-list : goal.add_sequences-added-requires-clause-list
add_sequences-added-requires-clause-list c =
    let m : ℕ = c.args.head.postings in
    let list : List Posting = c.requires.0 in
    let is = c.requires.1 in
    let docs : take m c.deref.result.now ≡ doc_sequence list = ap (take m) c.deref.ensures.value ∙ is.docs in
    let sums : take m c.deref-2.result.now ≡ freq_sequence list = ap (take m) c.deref-2.ensures.value ∙ is.sums in
    cursor-list c.args.head.documents list is.well_formed (take m c.deref.result.now) (take m c.deref-2.result.now) docs sums c.sequences_give_their_list.ensures c.cursors_stand_in_lists.ensures (omega (arith, c.args.head.documents_fit))

pub add_sequences-added-requires-clause-greatest : goal.add_sequences-added-requires-clause-greatest
add_sequences-added-requires-clause-greatest c =
    let m : ℕ = c.args.head.postings in
    let list : List Posting = c.requires.0 in
    let is = c.requires.1 in
    let docs : take m c.deref.result.now ≡ doc_sequence list = ap (take m) c.deref.ensures.value ∙ is.docs in
    let sums : take m c.deref-2.result.now ≡ freq_sequence list = ap (take m) c.deref-2.ensures.value ∙ is.sums in
    most c.args.head.documents list is.well_formed (take m c.deref.result.now) (take m c.deref-2.result.now) docs sums c.args.head.greatest is.greatest c.sequences_give_their_list.ensures

pub returns : goal.returns
returns c = λ col took of docs_are sums_are good saved.
    let t : ℕ = c.args.head.term in
    let m : ℕ = c.args.head.postings in
    let list : List Posting = list_of col t in
    let h = took good c.if-self.false in
    let long = head-long c.args.head col true of (sym c.if-not-is_long.false ∙ c.is_long.ensures) in
    let p : ℕ = c.in-Some.postings in
    let is : p ≡ c.args.self.now.postings + m = omega (arith, c.in-Some.ensures, c.from.ensures) in
    let docs : take m c.deref.result.now ≡ doc_sequence list = ap (take m) c.deref.ensures.value ∙ docs_are in
    let sums : take m c.deref-2.result.now ≡ freq_sequence list = ap (take m) c.deref-2.ensures.value ∙ sums_are in
    let same : postings_in (take m c.deref.result.now) (take m c.deref-2.result.now) ≡ list =
    given col.documents list (list-good col t good (within col t m long of.postings)) (take m c.deref.result.now) (take m c.deref-2.result.now) docs sums c.sequences_give_their_list.ensures in
    let pays : has_maxima c.args.self.now.words col t ≡ true = paid col t m long of.postings c.args.self.now p h is (omega (arith, c.if-postings-self.false)) in
    record {
      postings = counted col t m long of.postings c.args.self.now p h is;
      maxima = on-ok c.add_sequences-added.result _ (sym c.is_err-self.ensures.value ∙ saved) c.add_sequences-added.ensures.added (has_maxima c.args.self.now.words col) (list_of col) h.maxima pays (sym same);
    }
