use Rattle.std.proofs.Common.{ℕ, ◌*◌, length, sym, ap, ◌∙◌, subst}
use Rattle.bit_words.specs.Bits.{bits_of}
use Rattle.collection_model.specs.FormatNumbers.{format_three}
use Rattle.packed_sequence.specs.declared.last_field.LastField.{LastField}
use Rattle.packed_sequence.specs.Behind.{place_behind}
use Rattle.packed_sequence.specs.SequenceBits.{last_sum}
use Rattle.packed_sequence.specs.SequencePlaces.{IsSequenceBefore}
use Rattle.packed_sequence.specs.SequenceStated.{SequenceAt}
use Rattle.packed_sequence.proofs.stands.Sums.known.Goals as goal

pub returns : goal.returns
returns c =
    let sums = c.requires.sums in
    let ends = c.requires.ends in
    let words = c.args.self.words.now in
    let m = c.args.self.m in
    let here = subst (λ (last : LastField). IsSequenceBefore last m format_three.most_sum (bits_of words) c.of-at.result (64 * length words) sums ends) (sym c.last_sum-last.ensures)
    (subst (λ (at : ℕ). IsSequenceBefore (last_sum m c.args.self.greatest) m format_three.most_sum (bits_of words) at (64 * length words) sums ends) (sym c.of-at.ensures) c.requires.stand) in
    c.known_sequence.ensures sums ends here
    ∙ sym (ap (λ (s : SequenceAt). s.view)
    (c.sequences_state_back.ensures (last_sum m c.args.self.greatest) m (place_behind c.args.self.docs m) words sums ends c.requires.many c.requires.few
    c.requires.words_fit c.requires.stand))
