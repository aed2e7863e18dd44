-- What the partitions of a small collection cost, computed.
use Rattle.std.proofs.Common.{◌≡◌, refl, ℕ, List, [], ◌∷◌}
use Rattle.collection_model.specs.FormatNumbers.{format_one, format_two}
use Rattle.collection_model.specs.Collection.{Posting, Collection}
use Rattle.part_cost.specs.Payload.{payload, ef_payload, bitmap_payload}
use Rattle.index_file.specs.FileWords.{ListParts}
use Rattle.command_model.specs.GeneratedText.{cost_of_lists}

abbrev posting : ℕ → ℕ → Posting
posting doc freq = record { doc = doc; freq = freq }

-- three documents and two lists
abbrev small : Collection
small = record {
  documents = 3;
  lists = (posting 0 4 ∷ posting 1 5 ∷ posting 2 6 ∷ []) ∷ (posting 0 5 ∷ posting 2 6 ∷ []) ∷ [];
  sizes = 1 ∷ 2 ∷ 3 ∷ [];
}

-- each sequence in one part
abbrev whole : List ListParts
whole = record { doc_ends = 3 ∷ []; freq_ends = 3 ∷ [] } ∷ record { doc_ends = 2 ∷ []; freq_ends = 2 ∷ [] } ∷ []

-- the payloads 0, 12, 3 and 8, and four charges of 128
cost-of-one : cost_of_lists format_one small whole ≡ 535
unfolding payload ef_payload bitmap_payload lib.Count.count_leading_zeros
cost-of-one = refl

-- or four charges of 192
cost-of-two : cost_of_lists format_two small whole ≡ 791
unfolding payload ef_payload bitmap_payload lib.Count.count_leading_zeros
cost-of-two = refl
