use Rattle.std.proofs.Common.{◌≡◌, sym, ◌∙◌, ap, subst, ℕ, ◌≤◌, ◌++◌, List, length, arith}
use Rattle.std.specs.Prelude.{OnOk}
use Rattle.std.specs.List.{All, sum}
use Rattle.collection_model.specs.Collection.{docs_of, postings_of}
use Rattle.collection_model.specs.Sequences.{freq_sequence, lessened, sums_from}
use Rattle.collection_model.proofs.Lists.{docs-of_postings, freqs-of_postings}
use Rattle.collection_model.proofs.Sequences.{sums-length}
use Rattle.part_cost.specs.Formats.{numbers_of}
use Rattle.part_cost.specs.Partition.{IsPartition}
use Rattle.part_cost.proofs.Rooms.{formats-have-room}
use Rattle.two_level.specs.SequenceWords.{sequence_words}
use Rattle.postings.proofs.write.write_postings.Goals as goal

pub freq_sums-requires-clause-not_zero : goal.freq_sums-requires-clause-not_zero
freq_sums-requires-clause-not_zero c = subst (All (λ f. 1 ≤ f)) (freqs-of_postings c.args.docs.now c.args.freqs.now c.requires.same_length) c.requires.list.not_zero

pub freq_sums-requires-clause-sum_within : goal.freq_sums-requires-clause-sum_within
freq_sums-requires-clause-sum_within c =
    let whole : sum c.args.freqs.now ≤ (numbers_of c.args.format).most_sum =
    subst (λ fs. sum fs ≤ (numbers_of c.args.format).most_sum) (freqs-of_postings c.args.docs.now c.args.freqs.now c.requires.same_length) c.requires.list.sum_within in
    let room = (formats-have-room c.args.format).sums in
    omega (arith, whole, room)

-- the values of the two sequences
docs_are : (docs freqs values lent : List ℕ) → length docs ≡ length freqs → lent ≡ values → values ≡ docs → lent ≡ docs_of (postings_of docs freqs)
docs_are docs freqs values lent same lend is = lend ∙ is ∙ sym (docs-of_postings docs freqs same)

sums_are : (docs freqs values lent : List ℕ) → length docs ≡ length freqs → lent ≡ values → values ≡ lessened (sums_from 0 freqs) → lent ≡ freq_sequence (postings_of docs freqs)
sums_are docs freqs values lent same lend is = lend ∙ is ∙ sym (ap (λ fs. lessened (sums_from 0 fs)) (freqs-of_postings docs freqs same))

pub write_sequences-requires-clause-list : goal.write_sequences-requires-clause-list
write_sequences-requires-clause-list c = (
  postings_of c.args.docs.now c.args.freqs.now,
  c.requires.list,
  docs_are c.args.docs.now c.args.freqs.now c.in_ok-values.values.items c.deref.result.now c.requires.same_length c.deref.ensures.value c.in_ok-values.ensures,
  sums_are c.args.docs.now c.args.freqs.now c.in_ok-sums.sums.items c.deref-2.result.now c.requires.same_length c.deref-2.ensures.value c.in_ok-sums.ensures,
)

pub write_sequences-requires-clause-freq_parts : goal.write_sequences-requires-clause-freq_parts
write_sequences-requires-clause-freq_parts c =
    let count : length c.args.freqs.now ≡ length c.deref-2.result.now = sym (sums-length 0 c.args.freqs.now) ∙ sym (ap length (c.deref-2.ensures.value ∙ c.in_ok-sums.ensures)) in
    subst (λ n. IsPartition n c.args.freq_ends.now) count c.requires.freq_parts

pub returns-clause-ok : goal.returns-clause-ok
returns-clause-ok c =
    let docs = docs_are c.args.docs.now c.args.freqs.now c.in_ok-values.values.items c.deref.result.now c.requires.same_length c.deref.ensures.value c.in_ok-values.ensures in
    let sums = sums_are c.args.docs.now c.args.freqs.now c.in_ok-sums.sums.items c.deref-2.result.now c.requires.same_length c.deref-2.ensures.value c.in_ok-sums.ensures in
    let Ends : List ℕ → List ℕ → Type 0 = λ ds ss. OnOk c.write_sequences.result (c.write_sequences.new.to.items ≡ c.args.to.now.items
    ++ sequence_words (numbers_of c.args.format) ds c.args.doc_ends.now ++ sequence_words (numbers_of c.args.format) ss c.args.freq_ends.now) in
    subst (λ ds. Ends ds (freq_sequence (postings_of c.args.docs.now c.args.freqs.now))) docs (subst (λ ss. Ends c.deref.result.now ss) sums c.write_sequences.ensures.ok)
