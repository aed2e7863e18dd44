-- The list (0,1)(2,5) in one block.
use Rattle.std.proofs.Common.{◌≡◌, refl, sym, subst, ℕ, ◌+◌, ◌^◌, ◌<◌, ◌≤◌, [], ◌∷◌, get_or, arith}
use Rattle.std.specs.List.{All}
use Rattle.std.proofs.lemmas.List.Elements.{All-cons, All-nil}
use Rattle.block_max.specs.Blocks.{BlockList, IsBlockList}

abbrev pub one_list : BlockList
one_list = record {
  list = record { doc = 0; freq = 1 } ∷ record { doc = 2; freq = 5 } ∷ [];
  ends = 2 ∷ [];
}

both : (P : ℕ → Type 0) (x y : ℕ) → P x → P y → All P (x ∷ y ∷ [])
both P x y a b = All-cons P x (y ∷ []) a (All-cons P y [] b (All-nil P))

pub one-cut : All IsBlockList (one_list ∷ [])
one-cut = All-cons IsBlockList one_list [] (record {
  cursor_list = record {
    rising = λ k within. let zero : k ≡ 0 = omega arith in subst (λ (j : ℕ). get_or (0 ∷ 2 ∷ []) j 0 < get_or (0 ∷ 2 ∷ []) (j + 1) 0) (sym zero) (omega arith);
    docs = both (λ d. d < 4294967295) 0 2 (omega arith) (omega arith);
    not_zero = both (λ f. 1 ≤ f) 1 5 (omega arith) (omega arith);
    fit = both (λ f. f < 2 ^ 32) 1 5 (omega arith) (omega arith);
  };
  partition = (omega arith, refl);
}) (All-nil IsBlockList)
