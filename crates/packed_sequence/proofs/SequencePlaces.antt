-- One sequence stands at a place of bits, and is read back where they are those of words.
use Rattle.std.proofs.Common.{◌≡◌, ℕ, ◌+◌, ◌*◌, ◌^◌, ◌<◌, List, ◌++◌, length, drop, sym, ap, ◌∙◌, arith}
use Rattle.std.specs.List.{All}
use Rattle.std.proofs.lemmas.List.{take-append-drop}
use Rattle.bit_words.specs.Bits.{bits_of}
use Rattle.bit_words.specs.Laws.{BitsOfAppended, WordsOfBits}
use Rattle.bit_words.proofs.Value.{length-bits_of}
use Rattle.collection_model.specs.FormatNumbers.{format_three}
use Rattle.part_codec.specs.Laws.{TakesItsPayload, OneListAtPlace, ValuesStandAt}
use Rattle.two_level.specs.Laws.{OneSequence, WordsState, SequencesPassChecks}
use Rattle.packed_sequence.specs.Laws.{SequenceWordsFit, SequencesStateBack}
use Rattle.packed_sequence.specs.SequenceBits.{sequence_bits}
use Rattle.packed_sequence.specs.SequencePlaces.{OneSequenceAtPlace}
use Rattle.packed_sequence.proofs.LonePlaces.{piece-stands}
use Rattle.packed_sequence.proofs.OneSequenceBits.{one-sequence-bits}
use Rattle.packed_sequence.proofs.SequenceBack.{sequence-back}

-- one sequence stands at a place
pub one-at-place : TakesItsPayload → OneListAtPlace → BitsOfAppended → WordsOfBits → OneSequence format_three → SequenceWordsFit → OneSequenceAtPlace
one-at-place payloads one_part appended whole one fit last m bound other bits at end to xs ys ends cuts many few h k =
    let a : List ℕ = sequence_bits last at xs ends in
    let b : List ℕ = sequence_bits last at ys cuts in
    let rest : List ℕ = drop at bits in
    let first : a ++ drop (length a) rest ≡ rest = ap (λ zs. zs ++ drop (length a) rest) (sym (piece-stands bits at a h.stands)) ∙ take-append-drop (length a) rest in
    let second : b ++ drop (length b) rest ≡ rest = ap (λ zs. zs ++ drop (length b) rest) (sym (piece-stands bits at b k.stands)) ∙ take-append-drop (length b) rest in
    let r = one-sequence-bits payloads one_part appended whole one fit m many few last at xs ys ends cuts (drop (length a) rest) (drop (length b) rest) h.stored k.stored (first ∙ sym second) in
    (r.0, r.1)

pub state-back : TakesItsPayload → OneListAtPlace → ValuesStandAt → BitsOfAppended → WordsOfBits → OneSequence format_three → WordsState format_three → SequencesPassChecks format_three → SequenceWordsFit → SequencesStateBack
state-back payloads one_part stand appended whole one state passes fit last m at words xs ends many few small h =
    sequence-back payloads one_part stand appended whole one state passes fit m many few words small last at xs ends h.stored (piece-stands (bits_of words) at (sequence_bits last at xs ends) h.stands)
    (omega (arith, h.within, length-bits_of words))
