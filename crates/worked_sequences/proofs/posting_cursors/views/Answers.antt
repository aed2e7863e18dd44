use Rattle.std.proofs.Common.{◌≡◌, ℕ, ◌^◌, ◌<◌, List, length, sym, ap, subst, ◌∙◌, arith}
use Rattle.std.specs.List.{All}
use Rattle.std.specs.Option.{IfSome}
use Rattle.std.specs.Result.{IfOk}
use Rattle.std.proofs.lemmas.Result.{IfOk-at_ok}
use Rattle.collection_model.specs.FormatNumbers.{FormatNumbers}
use Rattle.collection_model.specs.Collection.{greatest, freqs_of}
use Rattle.collection_model.specs.Sequences.{steps_from, postings_in}
use Rattle.collection_model.proofs.Sequences.{same-steps}
use Rattle.collection_model.proofs.Lists.{freqs-of_postings}
use Rattle.part_cost.specs.Formats.{numbers_of}
use Rattle.cursor_api.specs.NextGeq.{IsCursorList}
use Rattle.two_level.specs.SequenceWords.{BeginsSequence}
use Rattle.two_level.specs.SequenceView.{SequenceView}
use Rattle.postings.specs.Laws.{SequencesAreAList, CursorsStandInLists}
use Rattle.worked_sequences.proofs.posting_cursors.views.Goals as goal

-- two sequences of one length with steps that fit are those of a cursor's list
cursor-list : SequencesAreAList → CursorsStandInLists → (format : FormatNumbers) (docs sums doc_ends sum_ends doc_words sum_words : List ℕ) (m doc_parts sum_parts : ℕ)
    → (used : ℕ) × BeginsSequence format m 1000 doc_parts docs doc_ends doc_words used → (used : ℕ) × BeginsSequence format m format.most_sum sum_parts sums sum_ends sum_words used
    → All (λ f. f < 2 ^ 32) (steps_from 0 sums) → IsCursorList (postings_in docs sums)
cursor-list lists stand format docs sums doc_ends sum_ends doc_words sum_words m doc_parts sum_parts d s fit =
    let list = lists format 1000 docs sums d.1.sequence.rising d.1.sequence.below s.1.sequence.rising s.1.sequence.below (d.1.sequence.count ∙ sym s.1.sequence.count) fit in
    stand format 1000 (postings_in docs sums) (omega arith) list.well_formed

-- the frequencies of their postings are the steps of the sums
freqs-are_steps : (docs sums : List ℕ) → length docs ≡ length sums → freqs_of (postings_in docs sums) ≡ steps_from 0 sums
freqs-are_steps docs sums same = freqs-of_postings docs (steps_from 0 sums) (same-steps docs sums same)

pub returns-clause-list : goal.returns-clause-list
returns-clause-list g c =
    let docs : SequenceView = c.expect-docs.result in
    let sums : SequenceView = c.expect-sums.result in
    let d : (used : ℕ) × BeginsSequence (numbers_of c.args.words.format) c.args.m 1000 c.args.words.doc_parts docs.values docs.ends c.args.words.docs.now used =
    IfOk-at_ok (λ v. (used : ℕ) × BeginsSequence (numbers_of c.args.words.format) c.args.m 1000 c.args.words.doc_parts v.values v.ends c.args.words.docs.now used) c.expect-docs.ensures c.check.ensures.ok in
    let s : (used : ℕ) × BeginsSequence (numbers_of c.args.words.format) c.args.m (numbers_of c.args.words.format).most_sum c.args.words.sum_parts sums.values sums.ends c.args.words.sums.now used =
    IfOk-at_ok (λ v. (used : ℕ) × BeginsSequence (numbers_of c.args.words.format) c.args.m (numbers_of c.args.words.format).most_sum c.args.words.sum_parts v.values v.ends c.args.words.sums.now used) c.expect-sums.ensures
    (subst (λ bound. IfOk c.check-2.result (λ v. (used : ℕ) × BeginsSequence (numbers_of c.args.words.format) c.args.m bound c.args.words.sum_parts v.values v.ends c.args.words.sums.now used)) c.most_sum.ensures c.check-2.ensures.ok) in
    let fit : All (λ f. f < 2 ^ 32) (steps_from 0 sums.values) = subst (λ o. IfSome o (λ x. All (λ f. f < 2 ^ 32) (steps_from 0 sums.values))) c.expect-max.ensures c.greatest_step.ensures.fit in
    cursor-list c.sequences_are_a_list.ensures c.cursors_stand_in_lists.ensures (numbers_of c.args.words.format) docs.values sums.values docs.ends sums.ends c.args.words.docs.now c.args.words.sums.now c.args.m c.args.words.doc_parts c.args.words.sum_parts d s fit

pub returns-clause-greatest : goal.returns-clause-greatest
returns-clause-greatest g c =
    let docs : SequenceView = c.expect-docs.result in
    let sums : SequenceView = c.expect-sums.result in
    let is : c.expect-max.result ≡ greatest (steps_from 0 sums.values) = subst (λ o. IfSome o (λ x. x ≡ greatest (steps_from 0 sums.values))) c.expect-max.ensures c.greatest_step.ensures.greatest in
    let d : length docs.values ≡ c.args.m = IfOk-at_ok (λ v. length v.values ≡ c.args.m) c.expect-docs.ensures c.check.ensures.count in
    let s : length sums.values ≡ c.args.m = IfOk-at_ok (λ v. length v.values ≡ c.args.m) c.expect-sums.ensures c.check-2.ensures.count in
    is ∙ ap greatest (sym (freqs-are_steps docs.values sums.values (d ∙ sym s)))
