use Rattle.std.proofs.Common.{◌≡◌, ◌+◌, sym, ◌∙◌, arith}
use Rattle.index_file.specs.ListStarts.{list_starts}
use Rattle.index_file.proofs.ListStarts.{some-given, all-kept, start-is, starts-count}
use Rattle.index_file.proofs.packed_views.range_of_list.Goals as goal
use Rattle.index_file.proofs.packed_views.range_of_list.Goals.{Else-is_empty}

-- they are where the lists begin
given : (c : Else-is_empty) → c.args.starts.now ≡ list_starts c.args.words.now
given c = all-kept c.args.words.now c.args.starts.now c.requires.starts (some-given _ (sym c.if-is_empty.false ∙ c.is_empty.ensures))

pub bounds-starts-t : goal.bounds-starts-t
bounds-starts-t c = omega (arith, c.requires.within, starts-count c.args.words.now c.args.starts.now (given (goal.at.bounds-starts-t c).Else-is_empty))

pub bounds-starts-t-else-is_empty : goal.bounds-starts-t-else-is_empty
bounds-starts-t-else-is_empty c = omega (arith, c.requires.within, starts-count c.args.words.now c.args.starts.now (given (goal.at.bounds-starts-t-else-is_empty c).Else-is_empty))

pub returns-else-is_empty-clause-from : goal.returns-else-is_empty-clause-from
returns-else-is_empty-clause-from c = start-is c.args.words.now c.args.starts.now c.args.t (given (goal.at.returns-else-is_empty-clause-from c).Else-is_empty) (omega (arith, c.requires.within))

pub returns-else-is_empty-clause-to : goal.returns-else-is_empty-clause-to
returns-else-is_empty-clause-to c = start-is c.args.words.now c.args.starts.now (c.args.t + 1) (given (goal.at.returns-else-is_empty-clause-to c).Else-is_empty) (omega (arith, c.requires.within))
