use Rattle.std.proofs.Common.{List}
use Rattle.part_cost.specs.Formats.{numbers_of}
use Rattle.index_file.specs.FileWords.{CutList}
use Rattle.index_file.proofs.Prefixes.{Reached}
use Rattle.index_file.proofs.checking.check_lists.Given as goal

abbrev pub invariant-loop-t : goal.invariant-loop-t
invariant-loop-t l = (cs : List CutList) × Reached (numbers_of l.fn.format) l.words l.t l.p cs
