use Rattle.std.proofs.Common.{arith}
use Rattle.part_codec.proofs.Relative.{relative-held}
use Rattle.index_file.proofs.NumbersRead.{here-small, part-small}
use Rattle.index_file.proofs.gaps.go_to_gap.Goals as goal

pub is_at_gap-requires-clause-small : goal.is_at_gap-requires-clause-small
is_at_gap-requires-clause-small c =
    let h = c.requires.held in
    here-small c.args.part.now h.0 c.args.numbers.now c.args.run h.1 h.2 c.requires.small

pub pass_marks-requires-clause-held : goal.pass_marks-requires-clause-held
pass_marks-requires-clause-held c =
    let h = c.requires.held in
    (h.0, part-small c.args.part.now h.0 h.1 c.requires.small (omega (arith, c.requires.last, c.ranges.last.fits)), h.2)

pub returns-then-show_next-clause-gap : goal.returns-then-show_next-clause-gap
returns-then-show_next-clause-gap c ys held here =
    c.pass_marks.ensures.gap ys (relative-held c.args.part.now ys held).rising here (c.show_next.ensures.0 c.if-show_next.true)
