-- The first check of a side file that breaks.
use Rattle.std.specs.Prelude.{◌≡◌, ◌≢◌, ℕ, ◌+◌, ◌-◌, ◌<◌, ◌≤◌, ◌⊎◌, ◌&&◌, ◌==◌, not, nat_lt, List, length, slice_index, MatchBool}
use Rattle.block_max.specs.declared.fault.SideCheck.TheVariants.{S1, S2, S3, S4, S5, S6}
use Rattle.block_max.specs.declared.fault.SideFault.{SideFault}
use Rattle.block_max.specs.Blocks.{BlockList, blocks_of, nth_list, nth_block}
use Rattle.block_max.specs.SideWords.{side_opening, side_end, block_freqs, first_word}

-- There is a block q of list t.
pub record HasBlock (cs : List BlockList) (t q : ℕ) : Type 0 where
  pub term : t < length cs
  pub block : q < length (blocks_of (nth_list cs t))

-- The word of block q of list t is not its greatest frequency.
abbrev pub IsWrong : List BlockList → List ℕ → ℕ → ℕ → Type 0
IsWrong cs words t q = slice_index words (first_word cs t + q) ≢ (nth_block cs t q).greatest

-- Block r of list s stands before block q of list t.
abbrev pub StandsBefore : ℕ → ℕ → ℕ → ℕ → Type 0
StandsBefore s r t q = (s < t) ⊎ ((s ≡ t) × (r < q))

-- the first block whose word is wrong
pub record IsFirstWrong (cs : List BlockList) (words : List ℕ) (t q : ℕ) : Type 0 where
  pub block : HasBlock cs t q
  pub wrong : IsWrong cs words t q
  pub first : (s r : ℕ) → HasBlock cs s r → StandsBefore s r t q
      → slice_index words (first_word cs s + r) ≡ (nth_block cs s r).greatest

-- The first so many blocks of list t have their greatest frequencies.
abbrev pub AreRight : List BlockList → List ℕ → ℕ → ℕ → Type 0
AreRight cs words t count = (r : ℕ) → r < count
    → slice_index words (first_word cs t + r) ≡ (nth_block cs t r).greatest

-- All blocks of the first so many lists have them.
abbrev pub AllRight : List BlockList → List ℕ → ℕ → Type 0
AllRight cs words count = (t : ℕ) → t < count → AreRight cs words t (length (nth_list cs t).ends)

-- the first block of list t whose word is wrong
pub record IsFirstWrongOf (cs : List BlockList) (words : List ℕ) (t q : ℕ) : Type 0 where
  pub within : q < length (nth_list cs t).ends
  pub wrong : IsWrong cs words t q
  pub before : AreRight cs words t q

-- Words that break none of the first four checks, and the number of blocks that they state.
pub record HasFrame (words : List ℕ) (stated : ℕ) : Type 0 where
  pub long : 4 ≤ length words
  pub opening : slice_index words 0 ≡ side_opening
  pub version : slice_index words 1 ≡ 1
  pub end : slice_index words (length words - 1) ≡ side_end
  pub count : slice_index words (length words - 2) ≡ stated

-- the first check that words break
abbrev pub IsFirstSideFault : List BlockList → List ℕ → SideFault → Type 0
IsFirstSideFault cs words f =
    MatchBool (nat_lt (length words) 4) (f ≡ record { check = S1; term = 0; part = 0 })
    (MatchBool (not (slice_index words 0 == side_opening)) (f ≡ record {
      check = S2;
      term = 0;
      part = 0;
    })
    (MatchBool (not (slice_index words 1 == 1)) (f ≡ record { check = S3; term = 0; part = 0 })
    (MatchBool (not (slice_index words (length words - 1) == side_end)) (f ≡ record {
      check = S4;
      term = 0;
      part = 0;
    })
    (MatchBool (not (slice_index words (length words - 2) == length (block_freqs cs)
    && length words == length (block_freqs cs) + 4))
    (f ≡ record { check = S5; term = 0; part = 0 })
    ((t : ℕ) × (q : ℕ) × IsFirstWrong cs words t q × (f ≡ record {
      check = S6;
      term = t;
      part = q;
    }))))))
