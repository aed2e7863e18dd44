use Rattle.std.proofs.Common.{sym}
use Rattle.part_codec.proofs.Relative.{at-all_ones}
use Rattle.part_codec.proofs.codecs.OnesViewPartCodec.get.Goals as goal

pub returns : goal.returns
returns c ys h = rw h (sym (at-all_ones _ _ c.requires.within))
