use Rattle.std.specs.Prelude.{◌≡◌, ℕ, zero, suc, ◌+◌, ◌-◌, ◌*◌, ◌/◌, ◌<◌, ◌≤◌, ◌⊎◌, Bool, true, false, IsTrue, not, ◌==◌, ◌||◌, ◌&&◌, nat_lt, nat_le, List, length, MatchBool, if◌then◌else◌}
use Rattle.collection_model.specs.FormatNumbers.{FormatNumbers, entry_words}
use Rattle.bit_words.specs.Bits.{bits_of, HasNoOne}
use Rattle.part_cost.specs.Payload.{payload}
use Rattle.part_cost.specs.Stored.{HoldsPart}
use Rattle.part_codec.specs.PartBits.{part_bits}
use Rattle.sequence_words.specs.declared.check.Check.{Check}
use Rattle.sequence_words.specs.declared.check.Check.TheVariants.{K6, K7, K8, K9}
use Rattle.sequence_words.specs.EntryWords.{last_at, end_at, offset_at}

-- Something breaks, and here holds; or it does not, and later holds.
abbrev pub OrElse : Type 0 → Type 0 → Type 0 → Type 0
OrElse breaks here later = (breaks × here) ⊎ ((¬ breaks) × later)

-- There is a first number below n that breaks, and found holds of it; or there is none, and later
-- holds.
abbrev pub FirstOf : (ℕ → Type 0) → ℕ → (ℕ → Type 0) → Type 0 → Type 0
FirstOf breaks n found later =
    ((q : ℕ) × (q < n) × breaks q × ((r : ℕ) → r < q → ¬ breaks r) × found q)
    ⊎ (((q : ℕ) → q < n → ¬ breaks q) × later)

-- the last value that entry q of the directory with which words begin states
abbrev pub stated_last : FormatNumbers → List ℕ → ℕ → ℕ
stated_last format words q = last_at format words (entry_words format * q)

-- the end that it states
abbrev pub stated_end : FormatNumbers → List ℕ → ℕ → ℕ
stated_end format words q = end_at format words (entry_words format * q)

-- the payload bits before its part that it states
abbrev pub stated_offset : FormatNumbers → List ℕ → ℕ → ℕ
stated_offset format words q = offset_at format words (entry_words format * q)

-- the end that the entry before states, 0 before the first
abbrev pub end_before : FormatNumbers → List ℕ → ℕ → ℕ
end_before format words zero = 0
end_before format words (suc q) = stated_end format words q

-- one more than the last value that the entry before states, 0 before the first
abbrev pub past_before : FormatNumbers → List ℕ → ℕ → ℕ
past_before format words zero = 0
past_before format words (suc q) = stated_last format words q + 1

-- how many values the part of entry q has
abbrev pub stated_count : FormatNumbers → List ℕ → ℕ → ℕ
stated_count format words q = stated_end format words q - end_before format words q

-- the universe of the part of entry q
abbrev pub stated_universe : FormatNumbers → List ℕ → ℕ → ℕ
stated_universe format words q = stated_last format words q + 1 - past_before format words q

-- the payload bits of the first q parts
abbrev pub payload_before : FormatNumbers → List ℕ → ℕ → ℕ
payload_before format words zero = 0
payload_before format words (suc q) =
    payload_before format words q + payload (stated_universe format words q)
    (stated_count format words q)

-- the word behind the payload of so many parts
abbrev pub word_behind : FormatNumbers → List ℕ → ℕ → ℕ
word_behind format words parts =
    entry_words format * parts + (payload_before format words parts + 63) / 64

-- the first bit of the payload behind so many entries
abbrev pub first_bit : FormatNumbers → ℕ → ℕ
first_bit format parts = 64 * (entry_words format * parts)

-- whether a number of parts can be that of m values
abbrev pub parts_fit : ℕ → ℕ → Bool
parts_fit m parts = if m == 0 then parts == 0 else nat_le 1 parts && nat_le parts m

-- whether an entry of such an end, last value and offset may follow so many values, one past the
-- value before, and so many payload bits
abbrev pub may_follow : ℕ → ℕ → ℕ → ℕ → ℕ → Bool → ℕ → ℕ → ℕ → Bool
may_follow m bound before past bits is_last end last offset =
    nat_lt before end
    && nat_le end m
    && nat_lt last bound
    && nat_le past last
    && nat_le (end - before) (last + 1 - past)
    && offset == bits
    && (not is_last || end == m)

-- whether entry q, of so many for m values below the bound, is none that could stand there
abbrev pub entry_breaks : FormatNumbers → List ℕ → ℕ → ℕ → ℕ → ℕ → Bool
entry_breaks format words parts m bound q =
    not (may_follow m bound (end_before format words q) (past_before format words q)
    (payload_before format words q) (q + 1 == parts)
    (stated_end format words q) (stated_last format words q) (stated_offset format words q))

-- The payload bits of part q are those of some values.
abbrev pub IsPartStored : FormatNumbers → List ℕ → ℕ → ℕ → Type 0
IsPartStored format words parts q =
    (ys : List ℕ) × HoldsPart part_bits (bits_of words)
    (first_bit format parts + payload_before format words q) (stated_universe format words q)
    (stated_count format words q) ys

-- The first check that breaks in a sequence with which words are to begin: its entries, where they
-- end, its parts, and the padding. Found holds of the check and its part; where none breaks, later
-- holds.
abbrev pub FirstInSequence : FormatNumbers → List ℕ → ℕ → ℕ → ℕ → (Check → ℕ → Type 0) → Type 0
    → Type 0
FirstInSequence format words parts m bound found later =
    FirstOf (λ q. IsTrue (entry_breaks format words parts m bound q)) parts (found K7)
    (MatchBool (nat_lt (length words) (word_behind format words parts)) (found K7 parts)
    (FirstOf (λ q. ¬ IsPartStored format words parts q) parts (found K8)
    (OrElse (¬ HasNoOne (bits_of words) (first_bit format parts + payload_before format words parts)
    (64 * word_behind format words parts)) (found K9 0)
    later)))

-- the first check that breaks where words are to begin with a sequence of m values below the bound
-- in so many parts
abbrev pub IsSequenceFault : FormatNumbers → List ℕ → ℕ → ℕ → ℕ → Check → ℕ → Type 0
IsSequenceFault format words parts m bound check part =
    MatchBool (not (parts_fit m parts) || nat_lt (length words) (entry_words format * parts))
    ((check ≡ K6) × (part ≡ 0))
    (FirstInSequence format words parts m bound (λ k q. (check ≡ k) × (part ≡ q)) ⊥)

-- The words pass every check of a sequence of m values below the bound in so many parts.
pub record PassChecks (format : FormatNumbers) (words : List ℕ) (parts m bound : ℕ) : Type 0 where
  pub parts_are : parts_fit m parts ≡ true
  pub room : entry_words format * parts ≤ length words
  pub entries : (q : ℕ) → q < parts → entry_breaks format words parts m bound q ≡ false
  pub within : word_behind format words parts ≤ length words
  pub stored : (q : ℕ) → q < parts → IsPartStored format words parts q
  pub filled : HasNoOne (bits_of words) (first_bit format parts + payload_before format words parts)
      (64 * word_behind format words parts)
