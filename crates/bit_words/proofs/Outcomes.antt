use Rattle.std.proofs.Common.{ℕ, Option, Some, None, Result, Ok, Err, rules}
use Rattle.std.specs.Option.{IfNone, IsSome}
use Rattle.std.specs.Result.{OnErr}

-- a fact that holds where an error is given
pub on-err : {T E : Type 0} (r : Result T E) (P : Type 0) → P → OnErr r P
on-err (Ok x) P h = tt
on-err (Err e) P h = h

-- an option whose absence cannot be
pub some-from : (o : Option ℕ) (P : Type 0) → IfNone o P → (P → ⊥) → IsSome o
some-from None P h never = absurd (never h)
some-from (Some x) P h never = search rules

-- what follows from what an absent value says
pub none-then : {T : Type 0} (o : Option T) (P Q : Type 0) → IfNone o P → (P → Q) → IfNone o Q
none-then None P Q h then = then h
none-then (Some x) P Q h then = tt
