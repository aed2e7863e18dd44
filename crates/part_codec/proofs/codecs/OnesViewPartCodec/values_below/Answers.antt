use Rattle.std.proofs.Common.{arith, refl, ◌∙◌}
use Rattle.part_codec.specs.Forms.{all_ones}
use Rattle.part_codec.proofs.Relative.{at-all_ones}
use Rattle.part_codec.proofs.Parts.{next-all_ones}
use Rattle.part_codec.proofs.codecs.OnesViewPartCodec.values_below.Goals as goal

pub returns-clause-values : goal.returns-clause-values
returns-clause-values c ys h =
    let u = c.args.self.now.u in
    let first = c.requires.number (all_ones u) refl ∙ at-all_ones u c.args.k (omega arith) in
    next-all_ones u c.args.k c.args.number c.args.x c.loop-j.to c.min-count.result ys (omega arith) h first
    (omega (arith, c.min-count.ensures, c.min-below.ensures, c.saturating_sub.ensures))
    (λ j lt. c.loop-j.invariant j (omega arith))
