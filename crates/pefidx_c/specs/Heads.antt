use Rattle.std.specs.Prelude.{ℕ, ◌+◌, ◌-◌, ◌*◌, ◌^◌, ◌<◌, ◌≤◌, ◌==◌, if◌then◌else◌, List, map, length, slice_index}
use Rattle.std.specs.List.{range_with_len}
use Rattle.bit_words.specs.Bits.{bits_of}
use Rattle.packed_list.specs.ListPlaces.{HoldsList}
use Rattle.packed_list.specs.Gamma.{zeros_at, gamma_at, behind_gamma}
use Rattle.packed_sequence.specs.SequenceBits.{last_doc}
use Rattle.packed_sequence.specs.SequenceStated.{sequence_at}
use Rattle.index_file.specs.PackedWords.{first_list_bit}

-- where the sums stand of the list over n documents whose bits begin at a place of words
abbrev pub sums_place : ℕ → List ℕ → ℕ → ℕ
sums_place n words at = (sequence_at (last_doc n) (gamma_at bits at) words docs).behind
  where
    bits : List ℕ
    bits = bits_of words

    docs : ℕ
    docs = behind_gamma bits (behind_gamma bits at)

-- the head of such a list as it is kept: how many zeros each of its two gamma codes begins with,
-- and the place of its sums
abbrev pub head_stated : ℕ → List ℕ → ℕ → ℕ
head_stated n words at =
    zeros_at bits at + 32 * (zeros_at bits (behind_gamma bits at) + 32 * sums_place n words at)
  where
    bits : List ℕ
    bits = bits_of words

-- what is kept of the list between two places: 0 where it has fewer than two postings
abbrev pub head_between : ℕ → List ℕ → ℕ → ℕ → ℕ
head_between n words from to = if from == to then 0
    else if gamma_at (bits_of words) from == 1 then 0 else head_stated n words from

-- what is kept of list t, by where the lists begin
abbrev pub head_of : ℕ → List ℕ → List ℕ → ℕ → ℕ
head_of n words starts t = head_between n words (first_list_bit + slice_index starts t)
    (first_list_bit + slice_index starts (t + 1))

-- what is kept of all lists
abbrev pub heads_of : ℕ → List ℕ → List ℕ → List ℕ
heads_of n words starts = map (head_of n words starts) (range_with_len 0 (length starts - 1))

-- The bits between two places of words are those of a list over n documents.
pub record IsListRange (n : ℕ) (words : List ℕ) (from to : ℕ) : Type 0 where
  pub ordered : from ≤ to
  pub few : to < 2 ^ 44
  pub within : to ≤ 64 * length words
  pub list : HoldsList n (bits_of words) from to
