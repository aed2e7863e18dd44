use Rattle.std.proofs.Common.{◌≡◌, ℕ, ◌+◌, ◌-◌, ◌<◌, sym, ap, subst, ◌∙◌, Some, length, get_or, arith}
use Rattle.std.specs.List.{slice_get}
use Rattle.std.proofs.lemmas.Option.{slice_get-get_or}
use Rattle.collection_model.specs.Collection.{freqs_of}
use Rattle.collection_model.specs.Sequences.{postings_in, steps_from}
use Rattle.part_cost.specs.Span.{past}
use Rattle.postings.specs.declared.cursor.PostingCursor.{PostingCursor}
use Rattle.collection_model.proofs.Sequences.{steps-length}
use Rattle.postings.proofs.Steps.{IsStepAt, step-read}
use Rattle.postings.proofs.Lists.{within-sums, in-length, in-freqs, cursor-not_zero, cursor-fit}
use Rattle.postings.proofs.cursor.PostingCursorDocCursor.freq.Goals as goal

-- the cursor of the documents does not stand at the end
abbrev HasPosting : PostingCursor → Type 0
HasPosting s = s.docs.place < length (postings_in s.docs.sequence.values s.sums.sequence.values)

within : (s : PostingCursor) → HasPosting s → s.docs.place < length s.sums.sequence.values
within s some = within-sums s.docs.sequence.values s.sums.sequence.values s.docs.place s.same_length some

-- the frequency at a place of the list is the step there
freq-at : (s : PostingCursor) (f : ℕ) → HasPosting s → f ≡ get_or (steps_from 0 s.sums.sequence.values) s.docs.place 0
    → slice_get (freqs_of (postings_in s.docs.sequence.values s.sums.sequence.values)) s.docs.place ≡ Some f
freq-at s f some read =
    ap (λ xs. slice_get xs s.docs.place) (in-freqs s.docs.sequence.values s.sums.sequence.values s.same_length)
    ∙ slice_get-get_or (steps_from 0 s.sums.sequence.values) s.docs.place 0 (omega (arith, within s some, steps-length 0 s.sums.sequence.values)) ∙ ap Some (sym read)

-- what is read where the sums stand at the place of the documents
read-in_step : (s : PostingCursor) (value : ℕ) → HasPosting s → s.sums.place ≡ s.docs.place → value ≡ get_or s.sums.sequence.values s.sums.place 0
    → IsStepAt s.sums.sequence.values s.docs.place value s.past
read-in_step s value some here read =
    step-read s.sums.sequence.values s.docs.place value s.past (within s some)
    (cursor-not_zero s.docs.sequence.values s.sums.sequence.values s.same_length s.cursor.well_formed)
    (cursor-fit s.docs.sequence.values s.sums.sequence.values s.same_length s.cursor.well_formed)
    (read ∙ ap (λ k. get_or s.sums.sequence.values k 0) here) (s.before ∙ ap (past s.sums.sequence.values) here)

-- a cursor that caught up has its posting, and its sums stand there
record CaughtUp (s : PostingCursor) : Type 0 where
  pub some : HasPosting s
  pub here : s.sums.place ≡ s.docs.place

caught-up : (before s : PostingCursor) → HasPosting before → s.docs ≡ before.docs → s.sums.place ≡ before.docs.place → CaughtUp s
caught-up before s some docs place =
    let same_place : s.docs.place ≡ before.docs.place = ap (λ d. d.place) docs in
    let count : length s.docs.sequence.values ≡ length before.docs.sequence.values = ap (λ d. length d.sequence.values) docs in
    record {
      some = omega (arith, some, same_place, count, in-length before.docs.sequence.values before.sums.sequence.values before.same_length, in-length s.docs.sequence.values s.sums.sequence.values s.same_length);
      here = place ∙ sym same_place;
    }

pub catch_up-requires : goal.catch_up-requires
catch_up-requires c =
    let s = c.args.self.now in
    record {
      within = omega (arith, c.requires, c.place-place.ensures, in-length s.docs.sequence.values s.sums.sequence.values s.same_length);
      ahead = omega (arith, s.lag, c.place-place.ensures);
      reached = omega (arith, c.place-place.ensures);
    }

pub value-requires : goal.value-requires
value-requires c =
    let s = c.catch_up.new.self in
    let up = caught-up c.args.self.now s c.requires c.catch_up.ensures.docs (c.catch_up.ensures.place ∙ c.place-place.ensures) in
    record { within = omega (arith, up.here, within s up.some) }

pub overflow_add-result : goal.overflow_add-result
overflow_add-result c =
    let s = c.catch_up.new.self in
    let up = caught-up c.args.self.now s c.requires c.catch_up.ensures.docs (c.catch_up.ensures.place ∙ c.place-place.ensures) in
    let is = read-in_step s c.value.result up.some up.here c.value.ensures.value in
    omega (arith, is.few, c.catch_up.ensures.place, up.here)

pub overflow_sub-result : goal.overflow_sub-result
overflow_sub-result c =
    let s = c.catch_up.new.self in
    let up = caught-up c.args.self.now s c.requires c.catch_up.ensures.docs (c.catch_up.ensures.place ∙ c.place-place.ensures) in
    let is = read-in_step s c.value.result up.some up.here c.value.ensures.value in is.forward

pub overflow_cast-result : goal.overflow_cast-result
overflow_cast-result c =
    let s = c.catch_up.new.self in
    let up = caught-up c.args.self.now s c.requires c.catch_up.ensures.docs (c.catch_up.ensures.place ∙ c.place-place.ensures) in
    let is = read-in_step s c.value.result up.some up.here c.value.ensures.value in
    omega (arith, is.fits)

pub returns-clause-value : goal.returns-clause-value
returns-clause-value c =
    let s = c.catch_up.new.self in
    let up = caught-up c.args.self.now s c.requires c.catch_up.ensures.docs (c.catch_up.ensures.place ∙ c.place-place.ensures) in
    let is = read-in_step s c.value.result up.some up.here c.value.ensures.value in
    let before = c.args.self.now in
    subst (λ docs. slice_get (freqs_of (postings_in docs.sequence.values before.sums.sequence.values)) docs.place ≡ Some (c.value.result + 1 - s.past)) c.catch_up.ensures.docs
    (subst (λ sums. slice_get (freqs_of (postings_in s.docs.sequence.values sums.values)) s.docs.place ≡ Some (c.value.result + 1 - s.past)) c.catch_up.ensures.sums
    (freq-at s (c.value.result + 1 - s.past) up.some (sym is.is)))
