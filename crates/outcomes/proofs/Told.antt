-- What is told of a result whose refusal is given another way.
use Rattle.std.proofs.Common.{◌≡◌, arith}
use Rattle.std.specs.Prelude.{Result, Ok, Err, MatchResult, IsErrAnd}

-- It has that value, or a refusal of this property.
abbrev pub Told : {T E F : Type 0} → (E → F → Type 0) → Result T E → Result T F → Type 0
Told P r to = MatchResult r (λ x. to ≡ Ok x) (λ e. IsErrAnd to (P e))

pub told_ok : {T E F : Type 0} (r : Result T E) (to : Result T F) (P : E → F → Type 0) (x : T) → Told P r to → to ≡ Ok x → r ≡ Ok x
told_ok r to P x h e = grind arith

pub told_err : {T E F : Type 0} (r : Result T E) (to : Result T F) (P : E → F → Type 0) (f : F) → Told P r to → to ≡ Err f → (e : E) × (r ≡ Err e) × P e f
told_err r to P f h e = grind arith

-- the refusal that `?` hands on
pub handed_on : {T E : Type 0} {e : E} (r : Result T E) → IsErrAnd r (λ f. f ≡ e) → r ≡ Err e
handed_on r h = grind arith
