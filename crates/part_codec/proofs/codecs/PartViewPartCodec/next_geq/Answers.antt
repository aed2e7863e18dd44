use Rattle.std.proofs.Common.{subst}
use Rattle.part_codec.specs.Forms.{HoldsIn}
use Rattle.part_codec.proofs.codecs.PartViewPartCodec.next_geq.Goals as goal

pub returns-in-Ones : goal.returns-in-Ones
returns-in-Ones c ys h = c.next_geq.ensures ys (subst (λ s. HoldsIn s ys) c.in-Ones.is h)
