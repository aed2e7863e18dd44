use Rattle.std.proofs.Common.{arith, ap, sym, subst, ◌∙◌, slice_index}
use Rattle.part_codec.specs.Forms.{HoldsIn}
use Rattle.part_codec.proofs.views.PartView.seek_first.Goals as goal

pub returns-in-Ones : goal.returns-in-Ones
returns-in-Ones c ys h =
    let found = c.next_geq.ensures ys (subst (λ f. HoldsIn f ys) c.in-Ones.is h) in
    let counted = c.counted.ensures in
    record {
      own = c.next_geq.result.0;
      first = found.0;
      number = counted.number ∙ found.1;
      after = omega arith;
      before = omega (arith, counted.place);
      there = counted.there ∙ found.1 ∙ ap (slice_index ys) (sym counted.place);
    }
