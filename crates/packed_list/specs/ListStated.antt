use Rattle.std.specs.Prelude.{◌≡◌, ℕ, ◌-◌, ◌≤◌, ◌==◌, if◌then◌else◌, List, [], ◌∷◌, length}
use Rattle.bit_words.specs.Bits.{bits_of, field_at}
use Rattle.collection_model.specs.FormatNumbers.{format_three}
use Rattle.part_cost.specs.Payload.{digits}
use Rattle.two_level.specs.SequenceView.{SequenceView}
use Rattle.packed_list.specs.Gamma.{gamma_at, behind_gamma}
use Rattle.packed_list.specs.declared.view.ListRead.{ListRead}
use Rattle.packed_list.specs.declared.view.ListRead.TheVariants.{One, Several}
use Rattle.packed_sequence.specs.SequenceBits.{last_doc, last_sum}
use Rattle.packed_sequence.specs.SequenceStated.{SequenceAt, sequence_at}

-- a list that bits state: its greatest frequency, and its two sequences
pub record ListStated : Type 0 where
  pub most : ℕ
  pub docs : SequenceView
  pub freqs : SequenceView

-- a sequence of one value, which takes no bits
abbrev pub single_view : ℕ → SequenceView
single_view value = record { format = format_three; values = value ∷ []; ends = 1 ∷ [] }

-- the list of one posting whose document stands at a place
abbrev pub single_at : ℕ → ℕ → List ℕ → ℕ → ListStated
single_at n most words at = record {
  most = most;
  docs = single_view (field_at (bits_of words) at (digits (n - 1)));
  freqs = single_view (most - 1);
}

-- the list of m postings whose sequences stand at a place
abbrev pub sequences_at : ℕ → ℕ → ℕ → List ℕ → ℕ → ListStated
sequences_at n m most words at = record {
  most = most;
  docs = docs.view;
  freqs = (sequence_at (last_sum m most) m words docs.behind).view;
}
  where
    docs : SequenceAt
    docs = sequence_at (last_doc n) m words at

-- the list over n documents whose bits stand at a place of words, where those of one with postings
-- do
unfoldable pub list_at : ℕ → List ℕ → ℕ → ListStated
list_at n words at = if m == 1 then single_at n most words behind
    else sequences_at n m most words behind
  where
    m : ℕ
    m = gamma_at (bits_of words) at

    most : ℕ
    most = gamma_at (bits_of words) (behind_gamma (bits_of words) at)

    behind : ℕ
    behind = behind_gamma (bits_of words) (behind_gamma (bits_of words) at)

-- a list without postings
abbrev pub no_list : ListStated
no_list = record {
  most = 0;
  docs = record { format = format_three; values = []; ends = [] };
  freqs = record { format = format_three; values = []; ends = [] };
}

-- It is the list of this posting alone.
abbrev pub IsSingle : ℕ × ℕ → ListStated → Type 0
IsSingle p list =
    (list.docs.values ≡ p.0 ∷ []) × (list.freqs.values ≡ (p.1 - 1) ∷ []) × (list.most ≡ p.1)

-- This was read of it: its one posting, or the two sequences of several.
abbrev pub IsRead : ListRead → ListStated → Type 0
IsRead (One doc freq) list = IsSingle (doc, freq) list
IsRead (Several views) list = (views.docs ≡ list.docs) × (views.freqs ≡ list.freqs)
    × (views.greatest ≡ list.most) × (2 ≤ length list.docs.values)
