use Rattle.std.proofs.Common.{◌≡◌, ℕ, ◌+◌, ◌≤◌, List, [], ◌∷◌, length, Some, refl, sym, ap, ◌∙◌, subst, arith}
use Rattle.bit_words.specs.Bits.{bits_of}
use Rattle.collection_model.specs.FormatNumbers.{part_charge}
use Rattle.part_cost.specs.declared.formats.Format.{Format}
use Rattle.part_cost.specs.declared.formats.Format.TheVariants.{One, Two, Three}
use Rattle.part_cost.specs.Formats.{numbers_of}
use Rattle.part_cost.specs.Stored.{HoldsPart}
use Rattle.part_cost.proofs.Parts.{past-at}
use Rattle.part_codec.specs.PartBits.{part_bits}
use Rattle.part_codec.specs.PartValues.{values_at}
use Rattle.part_directory.specs.declared.alone.Alone.{Alone}
use Rattle.sequence_words.specs.SequenceWords.{sequence_words}
use Rattle.sequence_words.specs.SequenceView.{SequenceView, BeginWith, sequence_stated}
use Rattle.sequence_words.specs.SequenceParts.{StatesParts}
use Rattle.part_directory.specs.Alone.{alone_values, alone_view, words_begun, StandsAlone}
use Rattle.part_directory.proofs.Begun.{AreAlone, are-alone, begins-alone, few-words-alone}
use Rattle.part_directory.proofs.Probes.{lasts-rise}
use Rattle.part_directory.proofs.directory.Directory.standing_alone.Goals as goal
use Rattle.part_directory.proofs.directory.Directory.standing_alone.Goals.{After-one_list_at_place}

cheap : (format : Format) → part_charge (numbers_of format) ≤ 256
cheap One = omega arith
cheap Two = omega arith
cheap Three = omega arith

same-some : (x y : Alone) → ◌≡◌ {A = _} (Some x) (Some y) → x ≡ y
same-some x y h = cc

-- the part of values that stand alone
held-values : (bits : List ℕ) (place u m : ℕ) → ((ys : List ℕ) × HoldsPart part_bits bits place u m ys)
    → ((ys : List ℕ) → HoldsPart part_bits bits place u m ys → values_at bits place u m ≡ ys) → HoldsPart part_bits bits place u m (values_at bits place u m)
held-values bits place u m h stand = subst (HoldsPart part_bits bits place u m) (sym (stand h.0 h.1)) h.1

-- the values that stand alone
abbrev alone-of : After-one_list_at_place → List ℕ
alone-of c = alone_values (bits_of c.args.words.now) c.args.m (record { place = c.args.place; last = c.args.last })

values-alone : (c : After-one_list_at_place) → AreAlone (numbers_of c.args.format) (alone-of c) c.args.m c.args.last
values-alone c =
    are-alone c.one_list_at_place.ensures.values (numbers_of c.args.format) (bits_of c.args.words.now) c.args.m (record { place = c.args.place; last = c.args.last }) c.requires.some c.requires.small c.requires.part

-- their words state them
view-alone : (c : After-one_list_at_place)
    → sequence_stated (numbers_of c.args.format) (sequence_words (numbers_of c.args.format) (alone-of c) (c.args.m ∷ [])) 1 ≡ alone_view (numbers_of c.args.format) (bits_of c.args.words.now) c.args.m (record { place = c.args.place; last = c.args.last })
view-alone c =
    let format = numbers_of c.args.format in
    let words : List ℕ = sequence_words format (alone-of c) (c.args.m ∷ []) in
    c.words_state_their_sequence.ensures c.args.format c.args.m format.most_sum 1 (length words) (alone-of c) (c.args.m ∷ []) words (omega arith)
    (begins-alone format (alone-of c) c.args.m c.args.last (omega (arith, c.ranges.m.fits)) c.requires.some (values-alone c))

pub invariant_of-result : goal.invariant_of-result
unfolding words_begun
invariant_of-result c =
    let format = numbers_of c.args.format in
    let bits : List ℕ = bits_of c.args.words.now in
    let xs : List ℕ = alone-of (goal.at.invariant_of-result c).After-one_list_at_place in
    let words : List ℕ = sequence_words format xs (c.args.m ∷ []) in
    let are = values-alone (goal.at.invariant_of-result c).After-one_list_at_place in
    let begins = begins-alone format xs c.args.m c.args.last (omega (arith, c.ranges.m.fits)) c.requires.some are in
    let view = view-alone (goal.at.invariant_of-result c).After-one_list_at_place in
    let begun : BeginWith words 1 c.args.m (sequence_stated format words 1) = subst (BeginWith words 1 c.args.m) (sym view) (format.most_sum, length words, omega arith, begins) in
    let d : StatesParts format words 1 (sequence_stated format words 1) = c.directory_states_its_parts.ensures c.args.format words 1 c.args.m begun in
    let count : length (sequence_stated format words 1).values ≡ c.args.m = ap (λ (v : SequenceView). length v.values) view ∙ are.count in
    record {
      lent = c.requires.words;
      few_words = few-words-alone format (c.formats_have_room.ensures c.args.format) (c.sequence_takes_its_cost.ensures c.args.format) xs c.args.m c.args.last c.requires.some (cheap c.args.format) are;
      stated = d;
      count = sym count;
      few = omega (arith, count, c.ranges.m.fits);
      few_parts = c.requires.some;
      rising = lasts-rise format words 1 (sequence_stated format words 1) d;
      stands =
          λ (b : Alone) is.
          subst (StandsAlone format c.args.words.now c.args.m 1) (same-some (record { place = c.args.place; last = c.args.last }) b is)
          (record {
            one = refl;
            view = view;
            last = (let e = past-at xs c.args.m c.requires.some in omega (arith, e, are.last_is));
            place = c.requires.place;
            part = λ more. held-values bits c.args.place (c.args.last + 1) c.args.m (c.requires.part more) (λ ys h. c.one_list_at_place.ensures.values bits c.args.place (c.args.last + 1) c.args.m ys h);
          });
    }

pub returns : goal.returns
unfolding words_begun
returns c = view-alone (goal.at.returns c).After-one_list_at_place
