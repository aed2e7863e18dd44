use Rattle.std.specs.Prelude.{◌≡◌, ℕ, ◌+◌, ◌*◌, ◌/◌, ◌%◌, ◌<◌, ◌≤◌, ◌==◌, ◌&&◌, Bool, List, length, slice_index}
use Rattle.std.specs.Int.{bit_at}
use Rattle.std.specs.List.{list_any}
use Rattle.collection_model.specs.Collection.{Posting}

-- whether some numbers have one
abbrev pub has_number : ℕ → List ℕ → Bool
has_number x numbers = list_any (λ y. y == x) numbers

-- whether a list has a document
abbrev pub has_doc : ℕ → List Posting → Bool
has_doc d list = list_any (λ p. p.doc == d) list

-- whether a place is marked: bit k mod 64 of word k div 64 is 1
abbrev pub is_marked : List ℕ → ℕ → Bool
is_marked marks k = bit_at (slice_index marks (k / 64)) (k % 64) == 1

-- The marks of the first words, so many, were taken back where their numbers are none of these;
-- place k stands for the number `first` + k. The other words are as they were.
pub record AreKept (numbers : List ℕ) (first : ℕ) (old new : List ℕ) (words : ℕ) : Type 0 where
  pub within : words ≤ length old
  pub count : length new ≡ length old
  pub kept : (k : ℕ) → k < 64 * words
      → is_marked new k ≡ (is_marked old k && has_number (first + k) numbers)
  pub rest : (k : ℕ) → 64 * words ≤ k → k < 64 * length old → is_marked new k ≡ is_marked old k
