use Rattle.std.proofs.Common.{◌≡◌, ◌+◌, ◌<◌, ℕ, slice_index}
use Rattle.part_codec.proofs.codecs.OnesViewPartCodec.values_below.Given as goal

abbrev pub invariant-loop-j : goal.invariant-loop-j
invariant-loop-j l = (i : ℕ) → i < l.j → slice_index l.to i ≡ l.number + i
