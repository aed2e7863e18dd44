-- How long the two sequences of a list are.
use Rattle.std.proofs.Common.{◌≡◌, refl, sym, ap, ◌∙◌, ℕ, suc, ◌+◌, List, [], ◌∷◌, length}
use Rattle.collection_model.specs.Sequences.{lessened, sums_from, steps_from}

pub steps-length : (s : ℕ) (xs : List ℕ) → length (steps_from s xs) ≡ length xs
steps-length s [] = refl
steps-length s (x ∷ xs) = ap suc (steps-length (x + 1) xs)

pub sums-length : (s : ℕ) (fs : List ℕ) → length (lessened (sums_from s fs)) ≡ length fs
sums-length s [] = refl
sums-length s (f ∷ fs) = ap suc (sums-length (s + f) fs)

-- as many steps as documents
pub same-steps : (docs sums : List ℕ) → length docs ≡ length sums → length docs ≡ length (steps_from 0 sums)
same-steps docs sums same = same ∙ sym (steps-length 0 sums)
