use Rattle.std.proofs.Common.{◌≡◌, ◌*◌, ◌++◌, replicate}
use Rattle.directory_places.proofs.places.put_whole_zeros.Given as goal

abbrev pub invariant-loop : goal.invariant-loop
invariant-loop l = l.to ≡ l.initial.to ++ replicate (64 * l.counter) 0
