-- Parts that are near-cheapest as they are stored.
use Rattle.std.proofs.Common.{◌≡◌, ℕ, ◌∙◌, List, length, inl, inr, refl, sym, subst}
use Rattle.std.proofs.lemmas.List.{length-map}
use Rattle.collection_model.specs.FormatNumbers.{FormatNumbers, FileKind, Plain, Packed, part_charge}
use Rattle.collection_model.specs.Collection.{freqs_of}
use Rattle.collection_model.specs.Sequences.{doc_sequence, freq_sequence}
use Rattle.collection_model.proofs.Lists.{docs_of-length}
use Rattle.collection_model.proofs.Sequences.{sums-length}
use Rattle.part_cost.specs.Span.{cost_of_part}
use Rattle.part_cost.specs.Partition.{IsPartition}
use Rattle.part_cost.specs.StoredBits.{MayStandIn, IsNearStored}
use Rattle.index_file.specs.CutLists.{CutList}
use Rattle.index_file.specs.Builder.{IsNearCut}

-- what may stand in a file is a partition
stands-partition : (kind : FileKind) (limit : ℕ) (cost : ℕ → ℕ → ℕ) (n : ℕ) (ends : List ℕ) → MayStandIn kind limit cost n ends → IsPartition n ends
stands-partition Plain limit cost n ends h = h.partition
stands-partition Packed limit cost n ends h = elim h [ inl allowed ↦ allowed.partition | inr one ↦ subst (IsPartition n) (sym one.one) (one.some, refl) ]

pub cut-partition : (format : FormatNumbers) (xs ends : List ℕ) → IsNearStored format xs ends → IsPartition (length xs) ends
cut-partition format xs ends h = stands-partition format.kind format.limit (cost_of_part (part_charge format) xs) (length xs) ends h.stands

pub docs-partition : (format : FormatNumbers) (c : CutList) → IsNearCut format c → IsPartition (length c.list) c.parts.doc_ends
docs-partition format c h = subst (λ m. IsPartition m c.parts.doc_ends) (docs_of-length c.list) (cut-partition format (doc_sequence c.list) c.parts.doc_ends h.docs)

pub freqs-partition : (format : FormatNumbers) (c : CutList) → IsNearCut format c → IsPartition (length c.list) c.parts.freq_ends
freqs-partition format c h =
    subst (λ m. IsPartition m c.parts.freq_ends) (sums-length 0 (freqs_of c.list) ∙ length-map c.list (λ p. p.freq)) (cut-partition format (freq_sequence c.list) c.parts.freq_ends h.freqs)

-- a near-cheapest partition of a sequence, where it is named otherwise
pub cut-as : (format : FormatNumbers) (xs ys ends : List ℕ) → xs ≡ ys → IsNearStored format xs ends → IsNearStored format ys ends
cut-as format xs ys ends e h = subst (λ zs. IsNearStored format zs ends) e h
