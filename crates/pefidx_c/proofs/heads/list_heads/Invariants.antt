use Rattle.std.proofs.Common.{◌≡◌, map}
use Rattle.std.specs.List.{range_with_len}
use Rattle.pefidx_c.specs.Heads.{head_of}
use Rattle.pefidx_c.proofs.heads.list_heads.Given as goal

abbrev pub invariant-loop-t : goal.invariant-loop-t
invariant-loop-t l = l.heads.items ≡ map (head_of l.documents l.words l.starts) (range_with_len 0 l.t)
