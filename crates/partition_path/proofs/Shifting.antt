-- Lemmas on partitions of which one end is shifted.
use Rattle.std.proofs.Common.{◌≡◌, ◌∙◌, sym, subst, ap, ℕ, zero, suc, ◌+◌, ◌-◌, ◌≤◌, ◌<◌, List, [], ◌∷◌, length, get_or, set, drop, drop-cons, arith, get_or-set_same}
use Rattle.part_cost.specs.Partition.{IsPartitionFrom, WithinLimitFrom, IsAllowed, cost_from, partition_cost}
use Rattle.part_cost.specs.Formats.{numbers_of}
use Rattle.part_cost.specs.declared.formats.Format.{Format}
use Rattle.part_cost.specs.declared.formats.Format.TheVariants.{One, Two, Three}
use Rattle.part_cost.proofs.Partitions.{ends-within}
use Rattle.partition_path.specs.Joints.{IsAllowedCut}

module _ (limit : ℕ) (cost : ℕ → ℕ → ℕ) (n : ℕ) where
  -- an end but the last is an allowed cut between its neighbours
  pub end-cut : (i : ℕ) (ends : List ℕ) (k : ℕ) → suc k < length ends → IsPartitionFrom i n ends → WithinLimitFrom limit cost i ends → IsAllowedCut limit cost (get_or (i ∷ ends) k 0) (get_or ends (suc k) 0) (get_or ends k 0) × (get_or ends (suc k) 0 ≤ n)
  end-cut i [] k l h w = absurd (omega (arith, l))
  end-cut i (e ∷ []) k l h w = absurd (omega (arith, l))
  end-cut i (e ∷ f ∷ ends) zero l h w = (record { after = h.0; before = h.1.0; first = w.0; second = w.1.0 }, ends-within f n ends h.1.1)
  end-cut i (e ∷ f ∷ ends) (suc k) l h w = end-cut e (f ∷ ends) k (omega (arith, l)) h.1 w.1

  -- its neighbours cost no more than all
  pub end-costs : (i : ℕ) (ends : List ℕ) (k : ℕ) → suc k < length ends → cost (get_or (i ∷ ends) k 0) (get_or ends k 0) + cost (get_or ends k 0) (get_or ends (suc k) 0) ≤ cost_from cost i ends
  end-costs i [] k l = absurd (omega (arith, l))
  end-costs i (e ∷ []) k l = absurd (omega (arith, l))
  end-costs i (e ∷ f ∷ ends) zero l = omega arith
  end-costs i (e ∷ f ∷ ends) (suc k) l = omega (arith, end-costs e (f ∷ ends) k (omega (arith, l)))

  -- what a partition is with another cut there
  pub record Shifted (i : ℕ) (ends : List ℕ) (more : List ℕ) : Type 0 where
    pub partition : IsPartitionFrom i n more
    pub within : WithinLimitFrom limit cost i more
    pub cheaper : cost_from cost i more ≤ cost_from cost i ends

  pub end-shifted : (i : ℕ) (ends : List ℕ) (k cut : ℕ) → suc k < length ends → IsPartitionFrom i n ends → WithinLimitFrom limit cost i ends → IsAllowedCut limit cost (get_or (i ∷ ends) k 0) (get_or ends (suc k) 0) cut
      → cost (get_or (i ∷ ends) k 0) cut + cost cut (get_or ends (suc k) 0) ≤ cost (get_or (i ∷ ends) k 0) (get_or ends k 0) + cost (get_or ends k 0) (get_or ends (suc k) 0) → Shifted i ends (set ends k cut)
  end-shifted i [] k cut l h w a c = absurd (omega (arith, l))
  end-shifted i (e ∷ []) k cut l h w a c = absurd (omega (arith, l))
  end-shifted i (e ∷ f ∷ ends) zero cut l h w a c = record { partition = (a.after, (a.before, h.1.1)); within = (a.first, (a.second, w.1.1)); cheaper = omega (arith, c) }
  end-shifted i (e ∷ f ∷ ends) (suc k) cut l h w a c =
      let rest = end-shifted e (f ∷ ends) k cut (omega (arith, l)) h.1 w.1 a c in
      record { partition = (h.0, rest.partition); within = (w.0, rest.within); cheaper = omega (arith, rest.cheaper) }

  -- there are no more parts than numbers
  pub few-parts : (i : ℕ) (ends : List ℕ) → IsPartitionFrom i n ends → i + length ends ≤ n
  few-parts i [] h = omega (arith, h)
  few-parts i (e ∷ ends) h = omega (arith, h.0, few-parts e ends h.1)

  -- the same at an end that is counted from one, in the words of its neighbours
  pub cut-at : (ends : List ℕ) (k start cut end : ℕ) → 1 ≤ k → k < length ends → IsAllowed limit cost n ends → start ≡ get_or (0 ∷ ends) (k - 1) 0 → cut ≡ get_or ends (k - 1) 0 → end ≡ get_or ends k 0 → IsAllowedCut limit cost start end cut × (end ≤ n)
  cut-at ends zero start cut end some l a s c e = absurd (omega (arith, some))
  cut-at ends (suc k) start cut end some l a s c e =
      let before : suc k - 1 ≡ k = omega arith in
      let here = end-cut 0 ends k l a.partition a.within in
      let start_is : start ≡ get_or (0 ∷ ends) k 0 = s ∙ ap (λ (x : ℕ). get_or (0 ∷ ends) x 0) before in
      let cut_is : cut ≡ get_or ends k 0 = c ∙ ap (λ (x : ℕ). get_or ends x 0) before in
      rw (start_is, cut_is, e) here

  pub shifted-at : (ends : List ℕ) (k start cut end new : ℕ) → 1 ≤ k → k < length ends → IsAllowed limit cost n ends → start ≡ get_or (0 ∷ ends) (k - 1) 0 → cut ≡ get_or ends (k - 1) 0 → end ≡ get_or ends k 0
      → IsAllowedCut limit cost start end new → cost start new + cost new end ≤ cost start cut + cost cut end
      → IsAllowed limit cost n (set ends (k - 1) new) × (partition_cost cost (set ends (k - 1) new) ≤ partition_cost cost ends) × (new ≡ get_or (0 ∷ set ends (k - 1) new) (k + 1 - 1) 0)
  shifted-at ends zero start cut end new some l a s c e at less = absurd (omega (arith, some))
  shifted-at ends (suc k) start cut end new some l a s c e at less =
      let before : suc k - 1 ≡ k = omega arith in
      let start_is : start ≡ get_or (0 ∷ ends) k 0 = s ∙ ap (λ (x : ℕ). get_or (0 ∷ ends) x 0) before in
      let cut_is : cut ≡ get_or ends k 0 = c ∙ ap (λ (x : ℕ). get_or ends x 0) before in
      let at_end : IsAllowedCut limit cost (get_or (0 ∷ ends) k 0) (get_or ends (suc k) 0) new = subst (λ (x : ℕ). IsAllowedCut limit cost (get_or (0 ∷ ends) k 0) x new) e (subst (λ (x : ℕ). IsAllowedCut limit cost x end new) start_is at) in
      let less_there : cost (get_or (0 ∷ ends) k 0) new + cost new (get_or ends (suc k) 0) ≤ cost (get_or (0 ∷ ends) k 0) (get_or ends k 0) + cost (get_or ends k 0) (get_or ends (suc k) 0) =
      subst (λ (x : ℕ). cost (get_or (0 ∷ ends) k 0) new + cost new x ≤ cost (get_or (0 ∷ ends) k 0) (get_or ends k 0) + cost (get_or ends k 0) x) e
      (subst (λ (x : ℕ). cost (get_or (0 ∷ ends) k 0) new + cost new end ≤ cost (get_or (0 ∷ ends) k 0) x + cost x end) cut_is
      (subst (λ (x : ℕ). cost x new + cost new end ≤ cost x cut + cost cut end) start_is less)) in
      let all = end-shifted 0 ends k new l a.partition a.within at_end less_there in
      let read : new ≡ get_or (0 ∷ set ends k new) (suc k) 0 = sym (get_or-set_same ends k new 0 (omega (arith, l))) in
      let behind : suc k + 1 - 1 ≡ suc k = omega arith in
      let done : IsAllowed limit cost n (set ends k new) × (partition_cost cost (set ends k new) ≤ partition_cost cost ends) × (new ≡ get_or (0 ∷ set ends k new) (suc k + 1 - 1) 0) =
      (record { partition = all.partition; within = all.within }, all.cheaper, subst (λ (x : ℕ). new ≡ get_or (0 ∷ set ends k new) x 0) (sym behind) read) in
      subst (λ (x : ℕ). IsAllowed limit cost n (set ends x new) × (partition_cost cost (set ends x new) ≤ partition_cost cost ends) × (new ≡ get_or (0 ∷ set ends x new) (suc k + 1 - 1) 0)) (sym before) done

  -- the part to the next end
  pub next-end : (start : ℕ) (ends : List ℕ) (k : ℕ) → k < length ends → IsPartitionFrom start n (drop k ends) → get_or ends k 0 ≤ n
  next-end start ends k l h =
      let prefix : drop k ends ≡ get_or ends k 0 ∷ drop (suc k) ends = drop-cons ends k 0 l in
      let parts : IsPartitionFrom start n (get_or ends k 0 ∷ drop (suc k) ends) = subst (λ (x : List ℕ). IsPartitionFrom start n x) prefix h in
      ends-within (get_or ends k 0) n (drop (suc k) ends) parts.1

-- no format allows parts of many bits
pub limit-is-small : (format : Format) → (numbers_of format).limit ≤ 6144
limit-is-small One = omega arith
limit-is-small Two = omega arith
limit-is-small Three = omega arith
