use Rattle.std.proofs.Common.{◌≡◌, ℕ, ◌-◌, ◌≤◌, arith, sym, ◌∙◌, ap, ◌++◌, take, drop, ◌+◌, length, List, ◌⊎◌, inl, inr}
use Rattle.std.specs.Prelude.{Result, Ok, IsErrOf}
use Rattle.std.proofs.Math.Seq.{take-add}
use Rattle.io_traits.specs.declared.fail.IoFail.{IoFail}
use Rattle.io_traits.specs.declared.fail.IoFail.TheVariants.{NoMemory}
use Rattle.std.proofs.lemmas.List.{append_assoc, length-drop, take_all}

-- a prefix, and then a prefix of the rest
pub one_prefix : (old mid new piece : List ℕ) (at n : ℕ) → at ≤ length piece → mid ≡ old ++ take at piece →
    new ≡ mid ++ take n (take (length piece - at) (drop at piece)) → new ≡ old ++ take (at + n) piece
one_prefix old mid new piece at n within m e =
    e ∙ ap (λ xs. mid ++ take n xs) (take_all (length piece - at) (drop at piece) (omega (arith, length-drop at piece)))
    ∙ ap (λ xs. xs ++ take n (drop at piece)) m
    ∙ append_assoc old (take at piece) (take n (drop at piece))
    ∙ ap (λ xs. old ++ xs) (sym (take-add at n piece))

-- memory was not refused where the call answered
pub no_more_at_ok : {A : Type 0} (r : Result A IoFail) (x : A) {before now : ℕ} → r ≡ Ok x → IsErrOf r NoMemory ⊎ (now ≡ before) → now ≡ before
no_more_at_ok r x e (inl h) = absurd cc
no_more_at_ok r x e (inr same) = same
