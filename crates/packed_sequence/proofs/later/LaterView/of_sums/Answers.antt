use Rattle.std.proofs.Common.{ap}
use Rattle.packed_sequence.specs.Behind.{place_behind}
use Rattle.packed_sequence.specs.SequenceBits.{last_sum}
use Rattle.packed_sequence.specs.SequenceStated.{SequenceAt}
use Rattle.packed_sequence.proofs.later.LaterView.of_sums.Goals as goal

pub returns : goal.returns
returns c = λ sums ends h.
    ap (λ (s : SequenceAt). s.view)
    (c.sequences_state_back.ensures (last_sum c.args.m c.args.greatest) c.args.m (place_behind c.args.docs c.args.m) c.args.words.now sums ends c.requires.many c.requires.few
    c.requires.words_fit h)
