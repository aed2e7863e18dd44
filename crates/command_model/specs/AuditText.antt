use Rattle.std.specs.Prelude.{◌≡◌, ℕ, ◌+◌, ◌*◌, nat_le, nat_lt, ◌&&◌, Bool, List, [], ◌∷◌, ◌++◌, length, filter, count_by, sum_by}
use Rattle.collection_model.specs.FormatNumbers.{FormatNumbers, part_charge}
use Rattle.collection_model.specs.Sequences.{doc_sequence, freq_sequence}
use Rattle.part_cost.specs.declared.kinds.Which.{Which}
use Rattle.part_cost.specs.declared.kinds.Which.TheVariants.{Docs, Freqs}
use Rattle.part_cost.specs.Formats.{numbers_of}
use Rattle.part_cost.specs.Span.{cost_of_part}
use Rattle.part_cost.specs.StoredBits.{stored_bits, IsLeastStored, IsLeastStoredOfAll}
use Rattle.index_file.specs.FileWords.{CutList}
use Rattle.index_file.specs.IndexView.{IndexView, cut_lists}
use Rattle.pef_report.specs.AuditLine.{audit_line, audit_end}

-- a sequence of an index with the ends of its parts
pub record CutSequence : Type 0 where
  pub term : ℕ
  pub which : Which
  pub values : List ℕ
  pub ends : List ℕ

-- one of the two sequences of the list of a term
abbrev pub cut_sequence : ℕ → Which → CutList → CutSequence
cut_sequence term Docs c = record {
  term = term;
  which = Docs;
  values = doc_sequence c.list;
  ends = c.parts.doc_ends;
}
cut_sequence term Freqs c = record {
  term = term;
  which = Freqs;
  values = freq_sequence c.list;
  ends = c.parts.freq_ends;
}

-- the sequences of some lists, the first of them that of this term: each list's documents before
-- its frequencies
abbrev pub sequences_from : ℕ → List CutList → List CutSequence
sequences_from term [] = []
sequences_from term (c ∷ cs) =
    cut_sequence term Docs c ∷ cut_sequence term Freqs c ∷ sequences_from (term + 1) cs

-- the most numbers of a sequence of which the least costs are found
abbrev pub longest_audited : ℕ
longest_audited = 256

-- whether a sequence has a line, and whether it is too long for one
abbrev pub has_line : CutSequence → Bool
has_line s = nat_le 1 (length s.values) && nat_le (length s.values) longest_audited

abbrev pub is_longer : CutSequence → Bool
is_longer s = nat_lt longest_audited (length s.values)

-- what the parts of a sequence cost
abbrev pub part_costs : FormatNumbers → CutSequence → ℕ → ℕ → ℕ
part_costs format s = cost_of_part (part_charge format) s.values

-- The numbers of a line: the bits that the sequence takes as it stands in the file, the fewest that
-- it may take there, and the fewest of any partition.
pub record AreCostsOf (format : FormatNumbers) (s : CutSequence) (cost allowed any : ℕ) : Type 0
  where
    pub in_file : cost ≡ stored_bits format s.values s.ends
    pub least_allowed : IsLeastStored format s.values allowed
    pub least_of_all : IsLeastStoredOfAll format s.values any

-- The text is the line of a sequence.
abbrev pub IsAuditLine : FormatNumbers → CutSequence → List ℕ → Type 0
IsAuditLine format s text = (cost : ℕ) × (allowed : ℕ) × (any : ℕ)
    × AreCostsOf format s cost allowed any × (text ≡ audit_line s.term s.which cost allowed any)

-- The text is the lines of some sequences, one after the other.
abbrev pub AreAuditLines : FormatNumbers → List CutSequence → List ℕ → Type 0
AreAuditLines format [] text = text ≡ []
AreAuditLines format (s ∷ ss) text = (first : List ℕ) × (rest : List ℕ) × IsAuditLine format s first
    × AreAuditLines format ss rest × (text ≡ first ++ rest)

-- the sequences of an index, in the order of their lines
abbrev pub sequences_in : IndexView → List CutSequence
sequences_in i = sequences_from 0 (cut_lists i)

-- The text is the lines of an index: of each of its sequences that has one, by the costs of its
-- format, and how many have one and how many are longer.
abbrev pub IsAuditText : IndexView → List ℕ → Type 0
IsAuditText i text =
    (lines : List ℕ) × AreAuditLines (numbers_of i.format) (filter has_line (sequences_in i)) lines
    × (text ≡ lines ++ audit_end (count_by has_line (sequences_in i))
    (count_by is_longer (sequences_in i)))

-- the fewest part costs that are counted for some lines: twice, one for each number
abbrev pub fewest_counted : List CutSequence → ℕ
fewest_counted ss = sum_by (λ s. 2 * length s.values) ss

-- the fewest that are counted for the lines of an index
abbrev pub fewest_audited : IndexView → ℕ
fewest_audited i = fewest_counted (filter has_line (sequences_in i))

-- the most part costs that are counted for some lines: twice those of all parts of each sequence
abbrev pub most_counted : List CutSequence → ℕ
most_counted ss = sum_by (λ s. length s.values * (length s.values + 1)) ss

-- the most that are counted for the lines of an index
abbrev pub most_audited : IndexView → ℕ
most_audited i = most_counted (filter has_line (sequences_in i))
