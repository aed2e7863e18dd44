use Rattle.std.proofs.Common.{◌+◌, ap, arith, refl, sym, slice_index, ◌∙◌}
use Rattle.part_codec.specs.Forms.{all_ones}
use Rattle.part_codec.proofs.Relative.{at-all_ones}
use Rattle.part_codec.proofs.codecs.OnesViewPartCodec.after.Goals as goal

pub overflow_add-result : goal.overflow_add-result
overflow_add-result c =
    let u = c.args.self.now.u in
    omega (arith, c.requires.number (all_ones u) refl, at-all_ones u c.args._k (omega arith), c.args.self.now.in_range)

pub returns : goal.returns
returns c ys h =
    let u = c.args.self.now.u in
    let here = c.requires.number (all_ones u) refl ∙ at-all_ones u c.args._k (omega arith) in
    ap (λ n. n + 1) here ∙ sym (at-all_ones u (c.args._k + 1) c.requires.within) ∙ ap (λ xs. slice_index xs (c.args._k + 1)) (sym h)
