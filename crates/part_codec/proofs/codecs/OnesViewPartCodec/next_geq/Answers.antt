use Rattle.part_codec.proofs.Parts.{first-all_ones}
use Rattle.part_codec.proofs.codecs.OnesViewPartCodec.next_geq.Goals as goal

pub returns : goal.returns
returns c ys h = first-all_ones _ _ _ _ _ c.requires.reached c.requires.within h c.max-at.ensures
