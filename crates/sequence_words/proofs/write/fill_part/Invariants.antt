use Rattle.std.proofs.Common.{◌≡◌, ◌-◌, take, map}
use Rattle.std.specs.List.{slice_range}
use Rattle.sequence_words.proofs.write.fill_part.Given as goal

abbrev pub invariant-loop-value : goal.invariant-loop-value
invariant-loop-value l = l.part.items ≡ map (λ x. x - l.past) (take l.value-index (slice_range l.values l.from l.end))
