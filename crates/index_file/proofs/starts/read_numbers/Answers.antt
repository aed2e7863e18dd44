use Rattle.std.proofs.Common.{sym, ◌∙◌, arith}
use Rattle.part_codec.proofs.Relative.{relative-held}
use Rattle.part_codec.specs.PartView.{universe_of, count_of}
use Rattle.index_file.proofs.ListStarts.{all-given}
use Rattle.index_file.proofs.starts.read_numbers.Goals as goal

pub returns : goal.returns
returns c ys held =
    all-given ys c.values_below.new.to (universe_of c.args.part.now) (count_of c.args.part.now) _ c.values_below.result (relative-held c.args.part.now ys held) (omega (arith, c.requires.small))
    (c.requires.count ∙ sym c.values_below.ensures.room) (c.values_below.ensures.values ys held)
