use Rattle.std.proofs.Common.{◌≡◌, ℕ, ◌+◌, ◌*◌, List, length, sym, ap, ◌∙◌, subst, arith}
use Rattle.bit_words.specs.Bits.{bits_of, field_at}
use Rattle.collection_model.specs.FormatNumbers.{format_three}
use Rattle.part_cost.specs.Payload.{payload}
use Rattle.part_cost.specs.Span.{past}
use Rattle.part_cost.specs.Stored.{HoldsPart}
use Rattle.part_codec.specs.PartBits.{part_bits}
use Rattle.two_level.specs.SequenceView.{SequenceView}
use Rattle.packed_sequence.specs.declared.last_field.LastField.{LastField}
use Rattle.packed_sequence.specs.SequencePlaces.{IsSequenceBefore}
use Rattle.packed_sequence.proofs.LonePlaces.{LoneFacts, lone-facts, lone-size, one-end, one-when-zero}
use Rattle.packed_sequence.proofs.view.known_lone.Goals as goal
use Rattle.packed_sequence.proofs.view.known_lone.Goals.{After-part_takes_its_payload}

-- what is known of the one part
facts : (c : After-part_takes_its_payload) → (xs ends : List ℕ) → IsSequenceBefore c.args.sequence.last c.args.sequence.m format_three.most_sum (bits_of c.args.words.now) c.args.sequence.at (64 * length c.args.words.now) xs ends
    → LoneFacts (bits_of c.args.words.now) c.args.sequence.at (64 * length c.args.words.now) c.args.sequence.last c.args.sequence.m format_three.most_sum xs
facts c xs ends h =
    lone-facts c.part_takes_its_payload.ensures.payload c.args.sequence.last c.args.sequence.m format_three.most_sum (bits_of c.args.words.now) c.args.sequence.at (64 * length c.args.words.now) xs ends (omega (arith, c.requires.many)) (omega arith) c.requires.flag h

stood : (c : After-part_takes_its_payload) → LoneFacts (bits_of c.args.words.now) c.args.sequence.at (64 * length c.args.words.now) c.args.sequence.last c.args.sequence.m format_three.most_sum c.requires.stands.0
stood c = facts c c.requires.stands.0 c.requires.stands.1 c.requires.stands.2

held : (words : List ℕ) (at m w got : ℕ) (last : LastField) (xs : List ℕ) → LoneFacts (bits_of words) at (64 * length words) last m format_three.most_sum xs → got ≡ field_at (bits_of words) (at + 1) last.width → w ≡ last.width
    → HoldsPart part_bits (bits_of words) (at + 1 + w) (got + last.less + 1) m xs
held words at m w got last xs f value width =
    subst (λ k. HoldsPart part_bits (bits_of words) (at + 1 + k) (got + last.less + 1) m xs) (sym width)
    (subst (λ u. HoldsPart part_bits (bits_of words) (at + 1 + last.width) u m xs) (let e : past xs (length xs) ≡ got + last.less + 1 = omega (arith, f.end_is, value) in e) f.held)

pub overflow_add-end : goal.overflow_add-end
overflow_add-end c =
    let f = stood (goal.at.overflow_add-end c).After-part_takes_its_payload in
    omega (arith, f.end_is, f.below, c.requires.read)

pub standing_alone-requires-clause-small : goal.standing_alone-requires-clause-small
standing_alone-requires-clause-small c =
    let f = stood (goal.at.standing_alone-requires-clause-small c).After-part_takes_its_payload in
    omega (arith, f.end_is, f.below, c.requires.read)

pub standing_alone-requires-clause-place : goal.standing_alone-requires-clause-place
standing_alone-requires-clause-place c =
    let f = stood (goal.at.standing_alone-requires-clause-place c).After-part_takes_its_payload in
    omega (arith, f.place, c.from.ensures)

pub standing_alone-requires-clause-part : goal.standing_alone-requires-clause-part
standing_alone-requires-clause-part c = λ many. (
  c.requires.stands.0,
  held c.args.words.now c.args.sequence.at c.args.sequence.m c.from.result c.args.field c.args.sequence.last c.requires.stands.0 (stood (goal.at.standing_alone-requires-clause-part c).After-part_takes_its_payload) c.requires.read c.from.ensures,
)

pub overflow_add-result : goal.overflow_add-result
overflow_add-result c =
    let f = stood (goal.at.overflow_add-result c).After-part_takes_its_payload in
    omega (arith, f.end_is, f.below, c.requires.read)

pub returns-clause-view : goal.returns-clause-view
returns-clause-view c = λ xs ends h.
    let view : List ℕ → SequenceView = λ es. record { format = format_three; values = xs; ends = es } in
    let one = one-when-zero c.args.sequence.last c.args.sequence.m format_three.most_sum (bits_of c.args.words.now) c.args.sequence.at (64 * length c.args.words.now) xs ends (omega (arith, c.requires.many)) c.requires.flag h in
    c.standing_alone.ensures.more xs c.requires.many (held c.args.words.now c.args.sequence.at c.args.sequence.m c.from.result c.args.field c.args.sequence.last xs (facts (goal.at.returns-clause-view c).After-part_takes_its_payload xs ends h) c.requires.read c.from.ensures)
    ∙ ap view (sym (one-end c.args.sequence.m ends h.stored.partition one))

pub returns-clause-behind : goal.returns-clause-behind
returns-clause-behind c = λ xs ends h.
    let f = facts (goal.at.returns-clause-behind c).After-part_takes_its_payload xs ends h in
    let end : c.args.field + c.args.sequence.last.less + 1 ≡ past xs (length xs) = omega (arith, f.end_is, c.requires.read) in
    let s = lone-size c.part_takes_its_payload.ensures.payload c.args.sequence.last c.args.sequence.m format_three.most_sum (bits_of c.args.words.now) c.args.sequence.at (64 * length c.args.words.now) xs ends (omega (arith, c.requires.many)) (omega arith) c.requires.flag h in
    omega (arith, ap (λ u. payload u c.args.sequence.m) end, s, c.from.ensures)

pub returns-clause-range : goal.returns-clause-range
returns-clause-range c =
    let f = stood (goal.at.returns-clause-range c).After-part_takes_its_payload in
    (omega (arith, f.end_is, f.room, c.requires.read), omega (arith, f.end_is, f.below, c.requires.read))
