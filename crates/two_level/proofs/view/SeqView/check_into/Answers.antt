use Rattle.std.proofs.Common.{◌≡◌, ℕ, ◌<◌, ◌≤◌, ◌^◌, List, get_or, length, Fits, w64, Err, ap, sym, ◌∙◌, subst, arith, rules}
use Rattle.std.specs.List.{All}
use Rattle.std.proofs.lemmas.Result.{IfErr-at_err}
use Rattle.std.proofs.lemmas.List.{get_or_default}
use Rattle.collection_model.specs.FormatNumbers.{FormatNumbers}
use Rattle.part_cost.specs.Formats.{numbers_of}
use Rattle.sequence_words.specs.declared.checking.SeqFault.{SeqFault}
use Rattle.sequence_words.specs.SequenceWords.{BeginsSequence}
use Rattle.sequence_words.specs.SequenceFault.{word_behind, PassChecks, IsSequenceFault}
use Rattle.sequence_words.specs.SequenceView.{sequence_stated, words_used}
use Rattle.sequence_words.specs.Laws.{ChecksAcceptASequence, WordsState}
use Rattle.two_level.proofs.view.SeqView.check_into.Goals as goal
use Rattle.two_level.proofs.view.SeqView.check_into.Goals.{In_ok-found}

-- words are below 2^64
words-below : (words : List ℕ) → ((k : ℕ) → Fits w64 (get_or words k 0)) → All (λ w. w < 2 ^ 64) words
words-below words type_inv k d lt = omega (arith, get_or_default words k d 0 lt, type_inv k)

-- words that pass every check state a sequence with which they begin
stated-begins : (format : FormatNumbers) → ChecksAcceptASequence format → WordsState format → (m bound parts : ℕ) (words : List ℕ) → m < 2 ^ 32 → bound ≤ format.most_sum → All (λ w. w < 2 ^ 64) words
    → PassChecks format words parts m bound
    → (used : ℕ) × BeginsSequence format m bound parts (sequence_stated format words parts).values (sequence_stated format words parts).ends words used
stated-begins format accept state m bound parts words few fits are pass =
    let a = accept m bound parts words few fits are pass in
    let used : ℕ = word_behind format words parts in
    (used, subst (λ s. BeginsSequence format m bound parts s.values s.ends words used) (sym (state m bound parts used a.0 a.1 words fits a.2)) a.2)

-- the words that were checked
begun : (c : In_ok-found) → All (λ w. w < 2 ^ 64) c.args.words.now → (used : ℕ) × BeginsSequence (numbers_of c.args.shape.format) c.args.shape.m c.args.shape.bound c.args.shape.parts (sequence_stated (numbers_of c.args.shape.format) c.args.words.now c.args.shape.parts).values (sequence_stated (numbers_of c.args.shape.format) c.args.words.now c.args.shape.parts).ends c.args.words.now used
begun c small =
    stated-begins (numbers_of c.args.shape.format) (c.checks_accept_a_sequence.ensures c.args.shape.format) (c.words_state_their_sequence.ensures c.args.shape.format) c.args.shape.m c.args.shape.bound c.args.shape.parts c.args.words.now c.args.shape.few c.requires.bound small c.in_ok-found.ensures.ok

pub returns-in_err-found-clause-none : goal.returns-in_err-found-clause-none
returns-in_err-found-clause-none c =
    let words = c.args.words.now in
    let e : SeqFault = c.in_err-found.field-0.0 in
    let fault : IsSequenceFault (numbers_of c.args.shape.format) words c.args.shape.parts c.args.shape.m c.args.shape.bound e.check e.part =
    IfErr-at_err (λ f. IsSequenceFault (numbers_of c.args.shape.format) words c.args.shape.parts c.args.shape.m c.args.shape.bound f.check f.part) (first_of (search rules, cc)) c.check_words.ensures.first in
    let is : c.from_residual.result ≡ Err e = first_of (search rules, cc) in
    let none : (xs ends : List ℕ) (used : ℕ) → ¬ (BeginsSequence (numbers_of c.args.shape.format) c.args.shape.m c.args.shape.bound c.args.shape.parts xs ends words used) =
    λ xs ends used b. c.checks_refuse_no_sequence.ensures c.args.shape.format c.args.shape.m c.args.shape.bound c.args.shape.parts used e.part e.check xs ends words c.requires.bound b fault in
    rw is none

pub at_front-requires-clause-begun : goal.at_front-requires-clause-begun
unfolding sequence_stated
at_front-requires-clause-begun c =
    let s = begun (goal.at.at_front-requires-clause-begun c).In_ok-found (words-below c.args.words.now c.type_inv.words) in
    (c.args.shape.bound, s.0, c.requires.bound, s.1)

pub returns-clause-format : goal.returns-clause-format
unfolding sequence_stated
returns-clause-format c = ap (λ v. v.format) c.at_front.ensures

pub returns-clause-ok : goal.returns-clause-ok
returns-clause-ok c =
    let s = begun (goal.at.returns-clause-ok c).In_ok-found (words-below c.args.words.now c.type_inv.words) in
    subst (λ v. (used : ℕ) × BeginsSequence (numbers_of c.args.shape.format) c.args.shape.m c.args.shape.bound c.args.shape.parts v.values v.ends c.args.words.now used) (sym c.at_front.ensures) s

pub returns-clause-count : goal.returns-clause-count
returns-clause-count c =
    let s = begun (goal.at.returns-clause-count c).In_ok-found (words-below c.args.words.now c.type_inv.words) in
    ap (λ v. length v.values) c.at_front.ensures ∙ s.1.sequence.count

pub returns-clause-parts : goal.returns-clause-parts
returns-clause-parts c =
    let s = begun (goal.at.returns-clause-parts c).In_ok-found (words-below c.args.words.now c.type_inv.words) in
    ap (λ v. length v.ends) c.at_front.ensures ∙ s.1.sequence.parts_count

pub returns-clause-used : goal.returns-clause-used
unfolding sequence_stated
returns-clause-used c =
    let s = begun (goal.at.returns-clause-used c).In_ok-found (words-below c.args.words.now c.type_inv.words) in
    let d = c.directory_states_its_parts.ensures c.args.shape.format c.args.words.now c.args.shape.parts c.args.shape.m (c.args.shape.bound, s.0, c.requires.bound, s.1) in
    c.in_ok-found.ensures.used ∙ sym d.used ∙ sym (ap words_used c.at_front.ensures)

pub returns-clause-values : goal.returns-clause-values
unfolding sequence_stated
returns-clause-values c some = c.in_ok-found.ensures.values some ∙ sym (ap (λ v. v.values) c.at_front.ensures)
