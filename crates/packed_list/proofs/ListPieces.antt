-- The bits of a list, by the values of its two sequences.
use Rattle.std.proofs.Common.{◌≡◌, ℕ, ◌+◌, ◌-◌, ◌≤◌, List, [], ◌∷◌, ◌++◌, length, slice_index, refl, sym, ap, ◌∙◌, arith}
use Rattle.std.proofs.lemmas.List.{length-map}
use Rattle.bit_words.specs.Bits.{field_bits}
use Rattle.collection_model.specs.Collection.{Posting, greatest_freq}
use Rattle.collection_model.specs.Sequences.{doc_sequence, freq_sequence}
use Rattle.part_cost.specs.Payload.{digits}
use Rattle.packed_list.specs.Gamma.{gamma}
use Rattle.packed_sequence.specs.SequenceBits.{last_doc, last_sum, sequence_bits}
use Rattle.packed_list.specs.ListBits.{list_bits}

-- its head, and the bits of one posting and of more behind it
abbrev pub head-of : ℕ → ℕ → List ℕ
head-of m g = gamma m ++ gamma g

abbrev pub single-bits : ℕ → ℕ → ℕ → List ℕ → List ℕ
single-bits n m g xs = head-of m g ++ field_bits (digits (n - 1)) (slice_index xs 0)

abbrev pub docs-of : ℕ → ℕ → ℕ → ℕ → List ℕ → List ℕ → List ℕ
docs-of n at m g xs ends = sequence_bits (last_doc n) (at + length (head-of m g)) xs ends

abbrev pub many-bits : ℕ → ℕ → ℕ → ℕ → List ℕ → List ℕ → List ℕ → List ℕ → List ℕ
many-bits n at m g xs ys ends cuts =
    head-of m g ++ docs-of n at m g xs ends ++ sequence_bits (last_sum m g) (at + length (head-of m g) + length (docs-of n at m g xs ends)) ys cuts

single-is : (n at : ℕ) (list : List Posting) (ends cuts : List ℕ) → length list ≡ 1 → list_bits n at list ends cuts ≡ single-bits n (length list) (greatest_freq list) (doc_sequence list)
single-is n at [] ends cuts h = absurd (omega (arith, h))
single-is n at (p ∷ []) ends cuts h = refl
single-is n at (p ∷ q ∷ list) ends cuts h = absurd (omega (arith, h))

many-is : (n at : ℕ) (list : List Posting) (ends cuts : List ℕ) → 2 ≤ length list
    → list_bits n at list ends cuts ≡ many-bits n at (length list) (greatest_freq list) (doc_sequence list) (freq_sequence list) ends cuts
many-is n at [] ends cuts h = absurd (omega (arith, h))
many-is n at (p ∷ []) ends cuts h = absurd (omega (arith, h))
many-is n at (p ∷ q ∷ list) ends cuts h = refl

none-is : (n at : ℕ) (list : List Posting) (ends cuts : List ℕ) → length list ≡ 0 → list_bits n at list ends cuts ≡ []
none-is n at [] ends cuts h = refl
none-is n at (p ∷ []) ends cuts h = absurd (omega (arith, h))
none-is n at (p ∷ q ∷ list) ends cuts h = absurd (omega (arith, h))

-- there are as many documents as postings
pub count-docs : (list : List Posting) (xs : List ℕ) → xs ≡ doc_sequence list → length xs ≡ length list
count-docs list xs e = ap length e ∙ length-map list (λ p. p.doc)

-- the same by the values
pub none-of : (n at : ℕ) (list : List Posting) (xs ends cuts : List ℕ) → xs ≡ doc_sequence list → length xs ≡ 0 → list_bits n at list ends cuts ≡ []
none-of n at list xs ends cuts e h = none-is n at list ends cuts (omega (arith, h, count-docs list xs e))

pub single-of : (n at g : ℕ) (list : List Posting) (xs ends cuts : List ℕ) → xs ≡ doc_sequence list → g ≡ greatest_freq list → length xs ≡ 1
    → list_bits n at list ends cuts ≡ single-bits n (length xs) g xs
single-of n at g list xs ends cuts e f h =
    single-is n at list ends cuts (omega (arith, h, count-docs list xs e))
    ∙ ap (λ k. single-bits n k (greatest_freq list) (doc_sequence list)) (sym (count-docs list xs e))
    ∙ ap (λ k. single-bits n (length xs) k (doc_sequence list)) (sym f)
    ∙ ap (single-bits n (length xs) g) (sym e)

pub many-of : (n at g : ℕ) (list : List Posting) (xs ys ends cuts : List ℕ) → xs ≡ doc_sequence list → ys ≡ freq_sequence list → g ≡ greatest_freq list → 2 ≤ length xs
    → list_bits n at list ends cuts ≡ many-bits n at (length xs) g xs ys ends cuts
many-of n at g list xs ys ends cuts e f top h =
    many-is n at list ends cuts (omega (arith, h, count-docs list xs e))
    ∙ ap (λ k. many-bits n at k (greatest_freq list) (doc_sequence list) (freq_sequence list) ends cuts) (sym (count-docs list xs e))
    ∙ ap (λ k. many-bits n at (length xs) k (doc_sequence list) (freq_sequence list) ends cuts) (sym top)
    ∙ ap (λ zs. many-bits n at (length xs) g zs (freq_sequence list) ends cuts) (sym e)
    ∙ ap (λ zs. many-bits n at (length xs) g xs zs ends cuts) (sym f)
