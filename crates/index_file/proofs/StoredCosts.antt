-- How many bits a sequence takes as it stands in a file.
use Rattle.std.proofs.Common.{◌≡◌, ℕ, zero, suc, ◌+◌, ◌<◌, List, [], ◌∷◌, length, get_or, refl, sym, ◌∙◌, subst, arith}
use Rattle.std.proofs.lemmas.List.{length-map}
use Rattle.std.proofs.lemmas.Bool.{eq-eqb, ne_eqb}
use Rattle.collection_model.specs.FormatNumbers.{FileKind, Plain, Packed}
use Rattle.collection_model.specs.Collection.{Posting, list_of, freqs_of}
use Rattle.collection_model.specs.Sequences.{doc_sequence, freq_sequence}
use Rattle.collection_model.proofs.Lists.{docs_of-length}
use Rattle.collection_model.proofs.Sequences.{sums-length}
use Rattle.part_cost.specs.Span.{payload_of_part, cost_of_part}
use Rattle.part_cost.specs.Partition.{IsPartition, partition_cost}
use Rattle.part_cost.specs.StoredBits.{stored_in}
use Rattle.index_file.specs.CutLists.{ListParts, ArePartitions}
use Rattle.index_file.specs.IndexView.{IndexView, cut_list_at}
use Rattle.index_file.proofs.Blocks.{partition-at}

pub stored-plain : (kind : FileKind) (charge : ℕ) (xs ends : List ℕ) → kind ≡ Plain → partition_cost (cost_of_part charge xs) ends ≡ stored_in kind charge xs ends
stored-plain Plain charge xs ends e = refl
stored-plain Packed charge xs ends e = cc

-- in several parts, and in none
pub stored-parts : (charge : ℕ) (xs ends : List ℕ) → (length ends ≡ 1 → ⊥) → partition_cost (cost_of_part charge xs) ends ≡ stored_in Packed charge xs ends
stored-parts charge xs [] many = refl
stored-parts charge xs (end ∷ []) many = absurd (many refl)
stored-parts charge xs (end ∷ next ∷ ends) many = refl

-- one value
pub stored-single : (charge : ℕ) (xs ends : List ℕ) → length ends ≡ 1 → length xs ≡ 1 → IsPartition (length xs) ends → 0 ≡ stored_in Packed charge xs ends
stored-single charge xs [] one single h = refl
stored-single charge xs (end ∷ []) one single h = let e : end ≡ 1 = omega (arith, h.1, single) in rw (eq-eqb end 1 e) refl
stored-single charge xs (end ∷ next ∷ ends) one single h = absurd (omega (arith, one))

-- one part of more
pub stored-lone : (charge : ℕ) (xs ends : List ℕ) → length ends ≡ 1 → (length xs ≡ 1 → ⊥) → IsPartition (length xs) ends
    → partition_cost (cost_of_part charge xs) ends ≡ charge + stored_in Packed charge xs ends
stored-lone charge xs [] one many h = absurd (omega (arith, one))
stored-lone charge xs (end ∷ []) one many h =
    let e : end ≡ length xs = h.1 in
    rw (ne_eqb end 1 (λ k. many (sym e ∙ k))) (let s : charge + payload_of_part xs 0 end + 0 ≡ charge + payload_of_part xs 0 end = omega arith in s)
stored-lone charge xs (end ∷ next ∷ ends) one many h = absurd (omega (arith, one))

-- the partitions of the two sequences of a list of an index
pub freqs-partition-at : (lists : List (List Posting)) (parts : List ListParts) (none : ListParts) → ArePartitions lists parts → (t : ℕ) → t < length lists
    → IsPartition (length (get_or lists t [])) (get_or parts t none).freq_ends
freqs-partition-at [] parts none h t lt = absurd (omega (arith, lt))
freqs-partition-at (list ∷ lists) [] none h t lt = absurd h
freqs-partition-at (list ∷ lists) (p ∷ parts) none h zero lt = h.1
freqs-partition-at (list ∷ lists) (p ∷ parts) none h (suc t) lt = freqs-partition-at lists parts none h.2 t (omega (arith, lt))

pub docs-cut : (i : IndexView) → ArePartitions i.collection.lists i.parts → (t : ℕ) → t < length i.collection.lists
    → IsPartition (length (doc_sequence (cut_list_at i t).list)) (cut_list_at i t).parts.doc_ends
docs-cut i h t lt =
    let none : ListParts = record { doc_ends = []; freq_ends = [] } in
    subst (λ m. IsPartition m (cut_list_at i t).parts.doc_ends) (sym (docs_of-length (list_of i.collection t))) (partition-at i.collection.lists i.parts none h t lt)

pub freqs-cut : (i : IndexView) → ArePartitions i.collection.lists i.parts → (t : ℕ) → t < length i.collection.lists
    → IsPartition (length (freq_sequence (cut_list_at i t).list)) (cut_list_at i t).parts.freq_ends
freqs-cut i h t lt =
    let none : ListParts = record { doc_ends = []; freq_ends = [] } in
    let list : List Posting = list_of i.collection t in
    subst (λ m. IsPartition m (cut_list_at i t).parts.freq_ends) (sym (sums-length 0 (freqs_of list) ∙ length-map list (λ p. p.freq))) (freqs-partition-at i.collection.lists i.parts none h t lt)
