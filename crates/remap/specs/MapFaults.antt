-- The first rule of a map that breaks.
use Rattle.std.specs.Prelude.{◌≡◌, ℕ, ◌+◌, ◌*◌, ◌<◌, ◌⊎◌, not, ◌==◌, nat_lt, nat_le, if◌then◌else◌, List, length, Option, Some, None, MatchBool}
use Rattle.std.specs.List.{list_any, range_with_len}
use Rattle.collection_reader.specs.FirstFault.{number_at, lacks}
use Rattle.remap.specs.declared.fault.MapRule.{MapRule}
use Rattle.remap.specs.declared.fault.MapRule.TheVariants.{M1, M2, M3, M4, M5}
use Rattle.remap.specs.declared.fault.MapFault.{MapFault}

-- id k that the bytes state
abbrev pub id_at : List ℕ → ℕ → ℕ
id_at bytes k = number_at bytes (k + 1)

-- what breaks at id k, of n
abbrev pub id_break : ℕ → List ℕ → ℕ → Option MapRule
id_break n bytes k =
    if lacks bytes (k + 1) then Some M1
    else if nat_le n (id_at bytes k) then Some M3
    else if list_any (λ j. id_at bytes j == id_at bytes k) (range_with_len 0 k) then Some M4
    else None

-- A rule breaks at a first place below n, and found holds of both; or none does, and otherwise
-- holds.
abbrev pub FirstIdBreak : ℕ → List ℕ → (ℕ → MapRule → Type 0) → Type 0 → Type 0
FirstIdBreak n bytes found otherwise =
    ((k : ℕ) × (rule : MapRule) × (k < n) × (id_break n bytes k ≡ Some rule)
    × ((j : ℕ) → j < k → id_break n bytes j ≡ None) × found k rule)
    ⊎ (((k : ℕ) → k < n → id_break n bytes k ≡ None) × otherwise)

-- The first rule that the bytes break as the new ids of n documents: the length, id by id, and then
-- that nothing follows.
abbrev pub IsMapFault : ℕ → List ℕ → MapFault → Type 0
IsMapFault n bytes fault =
    MatchBool (lacks bytes 0) (fault ≡ record { rule = M1; place = 0 })
    (MatchBool (not (number_at bytes 0 == n)) (fault ≡ record { rule = M2; place = 0 })
    (FirstIdBreak n bytes (λ k rule. fault ≡ record { rule = rule; place = k })
    (MatchBool (nat_lt (4 * (n + 1)) (length bytes)) (fault ≡ record { rule = M5; place = n }) ⊥)))
