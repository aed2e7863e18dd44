use Rattle.std.proofs.Common.{◌≡◌, refl, ℕ, List, [], ◌∷◌, ◌^◌, IsTrue, rules, lit<, find, nat_le, map, Some}
use Rattle.part_cost.specs.declared.kinds.Kind.TheVariants.{Ones, Bitmap}
use Rattle.part_cost.specs.Payload.{digits, payload, kind_of, low_width_of, ef_payload, bitmap_payload}
use Rattle.part_cost.specs.Span.{universe, cost_of_part, relative_values}
use Rattle.part_cost.specs.Partition.{IsPartition, partition_cost}
use Rattle.part_cost.specs.Bounds.{are_bounds, Cover}
use Rattle.part_cost.specs.Laws.{BoundsCover}

digits-rows : map digits (1 ∷ 2 ∷ 3 ∷ 6 ∷ 387 ∷ 599 ∷ 1797 ∷ (2 ^ 36) ∷ []) ≡ 1 ∷ 2 ∷ 2 ∷ 3 ∷ 9 ∷ 10 ∷ 11 ∷ 37 ∷ []
unfolding lib.Count.count_leading_zeros
digits-rows = refl

-- 3, 700 as one part
low-701 : low_width_of 701 2 ≡ 8
unfolding low_width_of
low-701 = refl

payload-701 : payload 701 2 ≡ 20
unfolding payload ef_payload bitmap_payload lib.Count.count_leading_zeros
payload-701 = refl

-- 0, 5 as one part: a tie
ef-6 : ef_payload 6 2 ≡ 6
unfolding ef_payload lib.Count.count_leading_zeros
ef-6 = refl

kind-6 : kind_of 6 2 ≡ Bitmap
unfolding kind_of ef_payload bitmap_payload lib.Count.count_leading_zeros
kind-6 = refl

-- 0, 2 as one part: the bitmap takes less
ef-3 : ef_payload 3 2 ≡ 4
unfolding ef_payload lib.Count.count_leading_zeros
ef-3 = refl

cost-3 : cost_of_part 128 (0 ∷ 2 ∷ []) 0 2 ≡ 131
unfolding payload ef_payload bitmap_payload lib.Count.count_leading_zeros
cost-3 = refl

cost-6 : cost_of_part 128 (0 ∷ 5 ∷ []) 0 2 ≡ 134
unfolding payload ef_payload bitmap_payload lib.Count.count_leading_zeros
cost-6 = refl

-- 129 numbers, ten apart
low-1281 : low_width_of 1281 129 ≡ 3
unfolding low_width_of
low-1281 = refl

payload-1281 : payload 1281 129 ≡ 685
unfolding payload ef_payload bitmap_payload lib.Count.count_leading_zeros
payload-1281 = refl

-- 599 of 600
payload-600 : payload 600 599 ≡ 610
unfolding payload ef_payload bitmap_payload lib.Count.count_leading_zeros
payload-600 = refl

kind-600 : kind_of 600 599 ≡ Bitmap
unfolding kind_of ef_payload bitmap_payload lib.Count.count_leading_zeros
kind-600 = refl

kind-7 : kind_of 7 7 ≡ Ones
unfolding kind_of
kind-7 = refl

payload-7 : payload 7 7 ≡ 0
unfolding payload
payload-7 = refl

-- one number far away
payload-900001 : payload 900001 1 ≡ 21
unfolding payload ef_payload bitmap_payload lib.Count.count_leading_zeros
payload-900001 = refl

low-900001 : low_width_of 900001 1 ≡ 19
unfolding low_width_of
low-900001 = refl

-- the widest single number of each format
payload-widest-one : payload (2 ^ 36) 1 ≡ 37
unfolding payload ef_payload bitmap_payload lib.Count.count_leading_zeros
payload-widest-one = refl

payload-widest-two : payload (2 ^ 48) 1 ≡ 49
unfolding payload ef_payload bitmap_payload lib.Count.count_leading_zeros
payload-widest-two = refl

low-widest : low_width_of (2 ^ 48) 1 ≡ 47
unfolding low_width_of
low-widest = refl

-- the sequence 4, 10 and the sequence 3, 8, 14
cost-4-10 : cost_of_part 128 (4 ∷ 10 ∷ []) 0 2 ≡ 136
unfolding payload ef_payload bitmap_payload lib.Count.count_leading_zeros
cost-4-10 = refl

cost-3-8-14 : cost_of_part 128 (3 ∷ 8 ∷ 14 ∷ []) 0 3 ≡ 140
unfolding payload ef_payload bitmap_payload lib.Count.count_leading_zeros
cost-3-8-14 = refl

-- the part 1 .. 3 of 0, 4, 9
part-universe : universe (0 ∷ 4 ∷ 9 ∷ []) 1 3 ≡ 9
part-universe = refl

part-relative : relative_values (0 ∷ 4 ∷ 9 ∷ []) 1 3 ≡ 3 ∷ 8 ∷ []
part-relative = refl

cost-part : cost_of_part 128 (0 ∷ 4 ∷ 9 ∷ []) 1 3 ≡ 136
unfolding payload ef_payload bitmap_payload lib.Count.count_leading_zeros
cost-part = refl

-- partitions of two numbers
halves-cost : partition_cost (cost_of_part 128 (0 ∷ 2 ∷ [])) (1 ∷ 2 ∷ []) ≡ 258
unfolding payload ef_payload bitmap_payload lib.Count.count_leading_zeros
halves-cost = refl

halves-partition : IsPartition 2 (1 ∷ 2 ∷ [])
halves-partition = (lit< tt, (lit< tt, refl))

empty-partition : IsPartition 0 []
empty-partition = refl

not-a-partition : IsPartition 2 (2 ∷ 1 ∷ []) → ⊥
not-a-partition p = search (p.1.0, rules)

-- a short run of bounds by the rule
abbrev bounds : List ℕ
bounds = 128 ∷ 132 ∷ 136 ∷ 141 ∷ 146 ∷ 150 ∷ []

bounds-rule : IsTrue (are_bounds 128 150 bounds)
bounds-rule = refl

bounds-have-law : BoundsCover → Cover 128 150 bounds
bounds-have-law law = law 128 150 bounds bounds-rule

bounds-too-few : IsTrue (are_bounds 192 6144 (192 ∷ 198 ∷ [])) → ⊥
bounds-too-few t = cc

least-129 : find (λ b. nat_le 129 b) bounds ≡ Some 132
least-129 = refl

least-133 : find (λ b. nat_le 133 b) bounds ≡ Some 136
least-133 = refl

least-150 : find (λ b. nat_le 150 b) bounds ≡ Some 150
least-150 = refl
