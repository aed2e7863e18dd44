use Rattle.std.proofs.Common.{◌≡◌, ◌+◌, map, take}
use Rattle.std.specs.List.{range_with_len}
use Rattle.part_codec.proofs.forms.OnesView.numbers_into.Given as goal

abbrev pub invariant-loop-k : goal.invariant-loop-k
invariant-loop-k l = take l.k l.to ≡ map (λ y. y + l.base) (range_with_len 0 l.k)
