use Rattle.std.proofs.Common.{◌≡◌, ℕ, ◌+◌, ◌*◌, ◌/◌, ◌^◌, ◌<◌, Some, None, List, length, get_or, refl, sym, ap, ◌∙◌, arith}
use Rattle.std.specs.Prelude.{if◌then◌else◌}
use Rattle.std.specs.List.{All, slice_range}
use Rattle.std.proofs.lemmas.List.Elements.{All-from_get_or}
use Rattle.bit_words.specs.Bits.{bits_of}
use Rattle.collection_model.specs.Collection.{greatest}
use Rattle.collection_model.specs.FormatNumbers.{format_three}
use Rattle.collection_model.specs.Sequences.{steps_from}
use Rattle.part_cost.specs.Payload.{digits}
use Rattle.two_level.specs.SequenceWords.{sequence_words, BeginsSequence}
use Rattle.packed_sequence.specs.SequencePlaces.{IsSequenceBefore}
use Rattle.packed_sequence.proofs.PartedPlaces.{parted-found, parted-head, parted-begins}
use Rattle.packed_list.specs.ListPlaces.{IsFound}
use Rattle.packed_list.specs.declared.check.Found.{Found}
use Rattle.packed_list.proofs.ListPlaces.{step-told}
use Rattle.packed_list.proofs.check.check_parted.Goals as goal
use Rattle.packed_list.proofs.check.check_parted.Goals.{In-Some}

pub returns-in_default-clause-none : goal.returns-in_default-clause-none
returns-in_default-clause-none c = λ xs ends h.
    c.in_default.ensures.none (length ends) ((c.args.at + 1 + digits c.args.sought.m + 63) / 64)
    (parted-head c.args.sought.last c.args.sought.m c.args.sought.bound (bits_of c.args.words.now) c.args.at c.args.end xs ends (omega (arith, c.args.sought.many)) c.args.sought.few c.requires.flag h)

-- the words that begin with a sequence are those of one that stands there
is-found : (c : In-Some) → (xs ends : List ℕ) (taken used : ℕ) → BeginsSequence format_three c.args.sought.m c.args.sought.bound c.in-Some.head.parts xs ends (slice_range c.args.words.now c.in-Some.head.start (c.args.end / 64)) taken
    → used ≡ length (sequence_words format_three xs ends) → (found : Found) → found.behind ≡ 64 * (c.in-Some.head.start + used) → found.greatest ≡ (if c.args.sought.with_steps then Some (greatest (steps_from 0 xs)) else None)
    → (is : IsFound c.args.sought.last c.args.sought.m c.args.sought.bound c.args.sought.with_steps (bits_of c.args.words.now) c.args.at c.args.end found) × (is.values ≡ xs)
is-found c xs ends taken used begun is told behind_is step_is =
    let found = parted-found c.words_are_bits.ensures.appended c.args.sought.last c.args.sought.m c.args.sought.bound c.args.words.now c.args.at c.args.end c.in-Some.head.parts c.in-Some.head.start (c.args.end / 64) taken xs ends c.args.sought.bound_fits c.requires.range
    c.requires.within c.requires.flag c.in-Some.ensures.some (let e : c.args.end / 64 ≡ c.args.end / 64 = omega arith in e) begun in (
      record {
        values = xs;
        ends = ends;
        sequence = found.sequence;
        behind = behind_is ∙ ap (λ k. 64 * (c.in-Some.head.start + k)) is ∙ found.behind_is;
        step = step_is;
      },
      refl,
    )

-- and begin with one that does
begins : (c : In-Some) → All (λ w. w < 2 ^ 64) c.args.words.now → (xs ends : List ℕ) → IsSequenceBefore c.args.sought.last c.args.sought.m c.args.sought.bound (bits_of c.args.words.now) c.args.at c.args.end xs ends
    → BeginsSequence format_three c.args.sought.m c.args.sought.bound c.in-Some.head.parts xs ends (slice_range c.args.words.now c.in-Some.head.start (c.args.end / 64)) (length (sequence_words format_three xs ends))
begins c small xs ends h =
    parted-begins c.words_are_bits.ensures.appended c.words_are_bits.ensures.words c.sequence_words_fit.ensures c.args.sought.last c.args.sought.m c.args.sought.bound c.args.words.now c.args.at c.args.end c.in-Some.head.parts c.in-Some.head.start (c.args.end / 64) xs ends small
    (omega (arith, c.args.sought.many)) c.args.sought.few c.requires.range c.requires.flag h c.in-Some.ensures.some (let e : c.args.end / 64 ≡ c.args.end / 64 = omega arith in e)

small-words : (words : List ℕ) → ((i : ℕ) → get_or words i 0 < 2 ^ 64) → All (λ w. w < 2 ^ 64) words
small-words words h = All-from_get_or (λ w. w < 2 ^ 64) words 0 (λ i lt. h i)

pub returns-in-Ok-clause-some : goal.returns-in-Ok-clause-some
returns-in-Ok-clause-some c =
    let view = c.in-Ok.checked.view in
    let begun = c.in-Ok.ensures.ok in
    let is = is-found (goal.at.returns-in-Ok-clause-some c).In-Some view.values view.ends begun.0 c.in-Ok.checked.used begun.1 (c.in-Ok.ensures.used ∙ ap (λ f. length (sequence_words f view.values view.ends)) c.in-Ok.ensures.format)
    c.found_up_to.result c.found_up_to.ensures.behind (c.found_up_to.ensures.step ∙ step-told c.args.sought.with_steps c.in-Ok.checked.greatest (greatest (steps_from 0 view.values)) c.in-Ok.ensures.step) in
    (is.0, λ some. c.in-Ok.ensures.values some ∙ sym is.1)

pub returns-in-Err-clause-none : goal.returns-in-Err-clause-none
returns-in-Err-clause-none c = λ xs ends h.
    c.in-Err.ensures.none xs ends (length (sequence_words format_three xs ends))
    (begins (goal.at.returns-in-Err-clause-none c).In-Some (small-words c.args.words.now (λ i. (let f = c.type_inv.words i in omega (arith, f)))) xs ends h)
