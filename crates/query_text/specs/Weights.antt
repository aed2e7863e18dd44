use Rattle.std.specs.Prelude.{ℕ, ◌+◌, ◌==◌, ◌≤◌, ◌<◌, ◌^◌, ◌&&◌, nat_le, Bool, List, [], ◌∷◌, map, filter, take, drop, position, sum, sum_by, Option, Some, None, option_map}
use Rattle.std.specs.List.{All}
use Rattle.std.specs.Option.{option_zip}
use Rattle.query_text.specs.Numbers.{number_of, field_before}
use Rattle.query_text.specs.TermSet.{set_of}

-- the byte between a term and its weight
abbrev pub star : ℕ
star = 42

-- the term and the weight of a field that is cut at a place: a field that is not cut has weight 1
abbrev pub cut_field : List ℕ → Option ℕ → Option (ℕ × ℕ)
cut_field field None = option_map (λ t. (t, 1)) (number_of field)
cut_field field (Some at) = option_zip (number_of (take at field)) (number_of (drop (at + 1) field))

-- the term and the weight of a field: `T` or `T*W`, cut at its first star
abbrev pub weighted_of : List ℕ → Option (ℕ × ℕ)
weighted_of field = cut_field field (position (λ b. b == star) field)

-- the terms and the weights of all the fields
abbrev pub weighted_fields : List (List ℕ) → Option (List (ℕ × ℕ))
weighted_fields [] = Some []
weighted_fields (f ∷ fs) = field_before (weighted_of f) (weighted_fields fs)

-- the greatest weight of a field
abbrev pub greatest_weight : ℕ
greatest_weight = 65535

-- whether a number is a weight of a field
abbrev pub is_weight : ℕ → Bool
is_weight w = nat_le 1 w && nat_le w greatest_weight

-- the weight of a term: the sum of the weights of its fields
abbrev pub weight_of : List (ℕ × ℕ) → ℕ → ℕ
weight_of fields t = sum_by (λ f. f.1) (filter (λ f. f.0 == t) fields)

-- the distinct terms of some fields, rising, each with its weight
abbrev pub weighted_set : List (ℕ × ℕ) → List (ℕ × ℕ)
weighted_set fields = map (λ t. (t, weight_of fields t)) (set_of (map (λ f. f.0) fields))

-- weights that a query's terms may have
pub record AreWeights (weights : List ℕ) : Type 0 where
  pub some : All (λ w. 1 ≤ w) weights
  pub light : sum weights < 2 ^ 26
