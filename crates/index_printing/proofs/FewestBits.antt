-- The fewest bits that a sequence may take in a file, by the least costs of its partitions.
use Rattle.std.proofs.Common.{◌≡◌, ℕ, zero, suc, false, ◌≤◌, min, List, [], length, inl, refl, sym, ap, ◌∙◌, subst, arith}
use Rattle.std.specs.Prelude.{◌<◌, Option, None, Some, unwrap_or}
use Rattle.std.proofs.lemmas.Bool.{ne_eqb}
use Rattle.collection_model.specs.FormatNumbers.{FormatNumbers, FileKind, Plain, Packed, part_charge}
use Rattle.part_cost.specs.Span.{payload_of_part, cost_of_part}
use Rattle.part_cost.specs.Partition.{IsPartition, IsAllowed, IsCheapest, IsCheapestOfAll}
use Rattle.part_cost.specs.StoredBits.{MayStandIn, stored_in, IsLeastStored, IsLeastStoredOfAll}
use Rattle.part_cost.specs.StoredLaws.{LeastInPackedFiles}
use Rattle.partition_path.specs.Rests.{whole_cost}

-- what all numbers cost as one part: none of no number
some-is : (limit : ℕ) (cost : ℕ → ℕ → ℕ) (n : ℕ) → 0 < n → whole_cost false limit cost n ≡ Some (cost 0 n)
some-is limit cost n some = rw (ne_eqb n 0 (λ e. omega (arith, some, e))) refl

pub no-whole : (limit : ℕ) (cost : ℕ → ℕ → ℕ) (n : ℕ) → None ≡ whole_cost false limit cost n → n ≡ 0
no-whole limit cost zero h = refl
no-whole limit cost (suc n) h = absurd (let e : None ≡ Some (cost 0 (suc n)) = h ∙ some-is limit cost (suc n) (omega arith) in cc)

pub some-whole : (limit : ℕ) (cost : ℕ → ℕ → ℕ) (n whole : ℕ) → Some whole ≡ whole_cost false limit cost n → (1 ≤ n) × (whole ≡ cost 0 n)
some-whole limit cost zero whole h = absurd cc
some-whole limit cost (suc n) whole h = (omega arith, ap (λ (o : Option ℕ). unwrap_or o 0) (h ∙ some-is limit cost (suc n) (omega arith)))

-- These are the fewest bits that a sequence may take in a file of the format, and the fewest of any of its partitions.
pub record AreFewest (format : FormatNumbers) (xs : List ℕ) (allowed any : ℕ) : Type 0 where
  pub least_allowed : IsLeastStored format xs allowed
  pub least_of_all : IsLeastStoredOfAll format xs any

module _ (format : FormatNumbers) (xs : List ℕ) (allowed any : ℕ) (cheapest : IsCheapest format.limit (cost_of_part (part_charge format) xs) (length xs) allowed)
    (cheapest_of_all : IsCheapestOfAll (cost_of_part (part_charge format) xs) (length xs) any) where
  abbrev May : FileKind → List ℕ → Type 0
  May kind ends = MayStandIn kind format.limit (cost_of_part (part_charge format) xs) (length xs) ends

  abbrev bits : FileKind → List ℕ → ℕ
  bits kind ends = stored_in kind (part_charge format) xs ends

  -- in a plain file they are the least costs
  pub fewest-plain : format.kind ≡ Plain → AreFewest format xs allowed any
  fewest-plain plain = record {
    least_allowed = record {
      reached = let r = cheapest.reached in (r.0, subst (λ k. May k r.0) (sym plain) r.1, ap (λ k. bits k r.0) plain ∙ r.2);
      none_less = λ ends may. subst (λ k. allowed ≤ bits k ends) (sym plain) (cheapest.none_less ends (subst (λ k. May k ends) plain may));
    };
    least_of_all = record {
      reached = let r = cheapest_of_all.reached in (r.0, r.1, ap (λ k. bits k r.0) plain ∙ r.2);
      none_less = λ ends cut. subst (λ k. any ≤ bits k ends) (sym plain) (cheapest_of_all.none_less ends cut);
    };
  }

  -- in a packed file so are they of no value
  module _ (packed : format.kind ≡ Packed) where
    pub fewest-none : length xs ≡ 0 → AreFewest format xs allowed any
    fewest-none none =
        let cut : IsPartition (length xs) [] = sym none in
        let parts : IsAllowed format.limit (cost_of_part (part_charge format) xs) (length xs) [] = record { partition = cut; within = tt } in
        let few : allowed ≤ 0 = cheapest.none_less [] parts in
        let few_of_all : any ≤ 0 = cheapest_of_all.none_less [] cut in
        let none_allowed : 0 ≡ allowed = omega (arith, few) in
        let none_of_all : 0 ≡ any = omega (arith, few_of_all) in
        record {
          least_allowed = record {
            reached = ([], subst (λ k. May k []) (sym packed) (inl parts), ap (λ k. bits k []) packed ∙ none_allowed);
            none_less = λ ends may. omega (arith, few);
          };
          least_of_all = record {
            reached = ([], cut, ap (λ k. bits k []) packed ∙ none_of_all);
            none_less = λ ends parts. omega (arith, few_of_all);
          };
        }

    -- of one value they are none
    pub fewest-one : LeastInPackedFiles → length xs ≡ 1 → AreFewest format xs 0 0
    fewest-one law one = let h = law format packed xs allowed any cheapest cheapest_of_all in record { least_allowed = h.one_allowed one; least_of_all = h.one_of_all one }

    -- of more they are those of the one part, where these are fewer
    pub fewest-many : LeastInPackedFiles → 2 ≤ length xs → (whole : ℕ) → whole ≡ payload_of_part xs 0 (length xs) → AreFewest format xs (min whole allowed) (min whole any)
    fewest-many law many whole is =
        let h = law format packed xs allowed any cheapest cheapest_of_all in
        subst (λ n. AreFewest format xs (min n allowed) (min n any)) (sym is) (record { least_allowed = h.many_allowed many; least_of_all = h.many_of_all many })

  -- there are some
  pub fewest-exist : LeastInPackedFiles → (a : ℕ) × (b : ℕ) × AreFewest format xs a b
  fewest-exist law = of format.kind refl (length xs) refl
    where
      of : (kind : FileKind) → format.kind ≡ kind → (n : ℕ) → length xs ≡ n → (a : ℕ) × (b : ℕ) × AreFewest format xs a b
      of Plain plain n count = (allowed, any, fewest-plain plain)
      of Packed packed zero count = (allowed, any, fewest-none packed count)
      of Packed packed (suc zero) count = (0, 0, fewest-one packed law count)
      of Packed packed (suc (suc n)) count =
          let whole : ℕ = payload_of_part xs 0 (length xs) in
          (min whole allowed, min whole any, fewest-many packed law (omega (arith, count)) whole refl)
