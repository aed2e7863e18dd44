use Rattle.part_codec.proofs.check_part.Goals as goal

pub returns : goal.returns
returns c = (
  λ h. let found = c.check.ensures.0 h in (found.0, (c.at.ensures.part found.0).0 found.1),
  λ (ys, h). c.check.ensures.1 (ys, (c.at.ensures.part ys).1 h),
)
