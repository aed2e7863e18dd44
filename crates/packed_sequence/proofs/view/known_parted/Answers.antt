use Rattle.std.proofs.Common.{◌≡◌, ℕ, ◌+◌, ◌*◌, ◌/◌, ◌%◌, ◌^◌, ◌<◌, ◌≤◌, min, List, length, get_or, slice_index, refl, sym, ap, ◌∙◌, subst, arith}
use Rattle.std.specs.List.{All, slice_range}
use Rattle.std.proofs.lemmas.List.Elements.{All-from_get_or}
use Rattle.bit_words.specs.Bits.{bits_of, field_at}
use Rattle.bit_words.specs.Laws.{BitsOfAppended, WordsOfBits}
use Rattle.collection_model.specs.FormatNumbers.{format_three}
use Rattle.part_cost.specs.Payload.{digits}
use Rattle.part_cost.proofs.Partitions.{few-parts}
use Rattle.two_level.specs.SequenceView.{SequenceView, BeginWith, words_used}
use Rattle.two_level.specs.SequenceWords.{sequence_words, BeginsSequence}
use Rattle.packed_sequence.specs.declared.last_field.LastField.{LastField}
use Rattle.packed_sequence.specs.SequenceBits.{sequence_bits}
use Rattle.packed_sequence.specs.SequencePlaces.{IsSequenceBefore, IsPartedHead}
use Rattle.packed_sequence.specs.Laws.{SequenceWordsFit}
use Rattle.packed_sequence.proofs.PartedPlaces.{head-read, parted-head, parted-begins, parted-size}
use Rattle.packed_sequence.proofs.view.known_parted.Goals as goal
use Rattle.packed_sequence.proofs.view.known_parted.Goals.{After-div_ceil-start, After-words_from}

rounds : (n r : ℕ) → r ≡ n / 64 + min 1 (n % 64) → r ≡ (n + 63) / 64
rounds n r e = omega arith

-- what is read of the head: its number of parts, and the word behind it
record Read (words : List ℕ) (at m parts start : ℕ) (last : LastField) (xs ends : List ℕ) : Type 0 where
  parts_are : parts ≡ length ends
  few : length ends ≤ m
  start_is : start ≡ (at + 1 + digits m + 63) / 64
  within : 64 * start ≤ 64 * length words
  head : IsPartedHead m (bits_of words) at (64 * length words) parts start
  behind : 64 * (start + length (sequence_words format_three xs ends)) ≡ at + length (sequence_bits last at xs ends)
  inside : at + length (sequence_bits last at xs ends) ≤ 64 * length words

read : (words : List ℕ) (at m n w d parts start : ℕ) (last : LastField) (xs ends : List ℕ) → 2 ≤ m → m < 2 ^ 32 → slice_index (bits_of words) at ≡ 1 → n ≡ m → w ≡ digits n → d ≡ w → parts ≡ field_at (bits_of words) (at + 1) (digits m)
    → start ≡ (at + 1 + d) / 64 + min 1 ((at + 1 + d) % 64) → IsSequenceBefore last m format_three.most_sum (bits_of words) at (64 * length words) xs ends → Read words at m parts start last xs ends
read words at m n w d parts start last xs ends many few flag e f g value rounded h =
    let bits : List ℕ = bits_of words in
    let first : ℕ = (at + 1 + digits m + 63) / 64 in
    let head = parted-head last m format_three.most_sum bits at (64 * length words) xs ends (omega (arith, many)) few flag h in
    let got = head-read m bits at (64 * length words) (length ends) first head in
    let parts_are : parts ≡ length ends = value ∙ sym got.parts_are in
    let start_is : start ≡ first = rounds (at + 1 + d) start rounded ∙ ap (λ k. (at + 1 + k + 63) / 64) (g ∙ f ∙ ap digits e) in
    record {
      parts_are = parts_are;
      few = omega (arith, few-parts 0 m ends h.stored.partition);
      start_is = start_is;
      within = omega (arith, start_is, head.within);
      head = subst (λ k. IsPartedHead m bits at (64 * length words) k start) (sym parts_are) (subst (λ k. IsPartedHead m bits at (64 * length words) (length ends) k) (sym start_is) head);
      behind = ap (λ k. 64 * (k + length (sequence_words format_three xs ends))) start_is ∙ parted-size last m format_three.most_sum bits at (64 * length words) xs ends (omega (arith, many)) flag h;
      inside = h.within;
    }

abbrev view-of : List ℕ → List ℕ → SequenceView
view-of xs ends = record { format = format_three; values = xs; ends = ends }

begun : BitsOfAppended → WordsOfBits → SequenceWordsFit → (words lent : List ℕ) (at m parts start : ℕ) (last : LastField) (xs ends : List ℕ) → All (λ w. w < 2 ^ 64) words → 2 ≤ m → m < 2 ^ 32 → slice_index (bits_of words) at ≡ 1
    → lent ≡ slice_range words start (length words) → Read words at m parts start last xs ends → IsSequenceBefore last m format_three.most_sum (bits_of words) at (64 * length words) xs ends
    → BeginWith lent parts m (view-of xs ends)
begun appended whole fits words lent at m parts start last xs ends small many few flag is r h =
    let q : length words ≡ 64 * length words / 64 = omega arith in (
      format_three.most_sum,
      length (sequence_words format_three xs ends),
      omega arith,
      subst (λ zs. BeginsSequence format_three m format_three.most_sum parts xs ends zs (length (sequence_words format_three xs ends))) (sym is)
          (parted-begins appended whole fits last m format_three.most_sum words at (64 * length words) parts start (length words) xs ends small (omega (arith, many)) few (omega arith) flag h r.head q),
    )

small-words : (words : List ℕ) → ((i : ℕ) → get_or words i 0 < 2 ^ 64) → All (λ w. w < 2 ^ 64) words
small-words words h = All-from_get_or (λ w. w < 2 ^ 64) words 0 (λ i lt. h i)

-- what was read of a sequence that stands there
seen : (c : After-div_ceil-start) → (xs ends : List ℕ) → IsSequenceBefore c.args.sequence.last c.args.sequence.m format_three.most_sum (bits_of c.args.words.now) c.args.sequence.at (64 * length c.args.words.now) xs ends → Read c.args.words.now c.args.sequence.at c.args.sequence.m c.args.parts c.div_ceil-start.result c.args.sequence.last xs ends
seen c xs ends h =
    read c.args.words.now c.args.sequence.at c.args.sequence.m c.from.result c.digits.result c.from-2.result c.args.parts c.div_ceil-start.result c.args.sequence.last xs ends c.requires.many (omega (arith, c.args.sequence.few)) c.requires.flag c.from.ensures c.digits.ensures
    c.from-2.ensures c.requires.read c.div_ceil-start.ensures h

-- the words behind the head begin with it
began : (c : After-words_from) → (xs ends : List ℕ) → IsSequenceBefore c.args.sequence.last c.args.sequence.m format_three.most_sum (bits_of c.args.words.now) c.args.sequence.at (64 * length c.args.words.now) xs ends → BeginWith c.words_from.result.now c.args.parts c.args.sequence.m (view-of xs ends)
began c xs ends h =
    begun c.words_are_bits.ensures.appended c.words_are_bits.ensures.words c.sequence_words_fit.ensures c.args.words.now c.words_from.result.now c.args.sequence.at c.args.sequence.m c.args.parts c.div_ceil-start.result c.args.sequence.last xs ends
    (small-words c.args.words.now (λ i. (let f = c.type_inv.words i in omega (arith, f)))) c.requires.many (omega (arith, c.args.sequence.few)) c.requires.flag c.words_from.ensures (seen (goal.at.After-words_from c).After-div_ceil-start xs ends h) h

pub words_from-requires : goal.words_from-requires
words_from-requires c = record { within = omega (arith, (seen (goal.at.words_from-requires c).After-div_ceil-start c.requires.stands.0 c.requires.stands.1 c.requires.stands.2).within) }

pub known-view-requires-clause-checked : goal.known-view-requires-clause-checked
known-view-requires-clause-checked c = (view-of c.requires.stands.0 c.requires.stands.1, refl, began (goal.at.known-view-requires-clause-checked c).After-words_from c.requires.stands.0 c.requires.stands.1 c.requires.stands.2)

pub returns-clause-view : goal.returns-clause-view
returns-clause-view c = λ xs ends h. c.known-view.ensures.same (view-of xs ends) refl (began (goal.at.returns-clause-view c).After-words_from xs ends h)

pub returns-clause-behind : goal.returns-clause-behind
returns-clause-behind c = λ xs ends h.
    let known = c.known-view.ensures.same (view-of xs ends) refl (began (goal.at.returns-clause-behind c).After-words_from xs ends h) in
    ap (λ (v : SequenceView). 64 * (c.div_ceil-start.result + words_used v)) known ∙ (seen (goal.at.returns-clause-behind c).After-div_ceil-start xs ends h).behind
