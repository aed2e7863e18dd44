use Rattle.std.proofs.Common.{◌≡◌, ℕ, sym, ◌∙◌, ap, ◌++◌, take, drop, length, List}
use Rattle.std.proofs.Math.Seq.{take-append_seam}
use Rattle.std.proofs.lemmas.List.{take-append-drop}

-- what was moved into the front of a buffer, and the rest, are what was left
pub moved_prefix : (left buf moved : List ℕ) (n : ℕ) → length moved ≡ n → moved ≡ take n left →
    left ≡ take n (moved ++ drop n buf) ++ drop n left
moved_prefix left buf moved n l e =
    sym (take-append-drop n left)
    ∙ ap (λ xs. xs ++ drop n left) (sym e ∙ sym (take-append_seam moved (drop n buf)) ∙ ap (λ k. take k (moved ++ drop n buf)) l)
