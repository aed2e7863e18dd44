use Rattle.std.proofs.Common.{◌≡◌, refl, ℕ, zero, suc, [], ◌∷◌, ◌++◌, ◌<◌, ◌≤◌, lit<, Some, None, inl, inr, replicate, arith, ap}
use Rattle.collection_model.specs.FormatNumbers.{FormatNumbers, format_one, format_two}
use Rattle.collection_model.specs.Bytes.{number_sequence, le32}
use Rattle.io_traits.specs.declared.fail.Slot.TheVariants.{Docs, Freqs, Sizes}
use Rattle.collection_reader.specs.declared.fault.Rule.{Rule}
use Rattle.collection_reader.specs.declared.fault.Rule.TheVariants.{C1, C2, C3, C4, C5, C6, C7, C8, C10, C11, C12}
use Rattle.collection_reader.specs.FirstFault.{head_fault, end_fault, freq_break, doc_break, IsListFault}
use Rattle.collection_reader.proofs.Breaks.{freq_break-none}

-- the head
cut-head : (format : FormatNumbers) → head_fault format (1 ∷ 0 ∷ 0 ∷ 0 ∷ 3 ∷ 0 ∷ []) ≡ Some (record { rule = C1; file = Docs; term = 0; place = 0 })
cut-head format = refl

empty-head : (format : FormatNumbers) → head_fault format [] ≡ Some (record { rule = C1; file = Docs; term = 0; place = 0 })
empty-head format = refl

not-single : (format : FormatNumbers) → head_fault format (2 ∷ 0 ∷ 0 ∷ 0 ∷ 3 ∷ 0 ∷ 0 ∷ 0 ∷ []) ≡ Some (record { rule = C2; file = Docs; term = 0; place = 0 })
not-single format = refl

too-many : head_fault format_one (number_sequence (268435456 ∷ [])) ≡ Some (record { rule = C3; file = Docs; term = 0; place = 0 })
too-many = refl

just-enough : head_fault format_one (number_sequence (268435455 ∷ [])) ≡ None
just-enough = refl

-- which the second format has room for, as for all numbers of four bytes
more-in_two : head_fault format_two (number_sequence (268435456 ∷ [])) ≡ None
more-in_two = refl

all-in_two : head_fault format_two (number_sequence (4294967295 ∷ [])) ≡ None
all-in_two = refl

-- the end: behind no list, and behind one list over three documents
no-sizes : end_fault 268435455 0 [] [] ≡ Some (record { rule = C1; file = Sizes; term = 0; place = 0 })
no-sizes = refl

more-freqs : end_fault 3 1 (0 ∷ 0 ∷ 0 ∷ 0 ∷ []) (number_sequence (4 ∷ 0 ∷ 7 ∷ [])) ≡ Some (record { rule = C10; file = Freqs; term = 1; place = 0 })
more-freqs = refl

sizes-length : end_fault 3 1 [] (number_sequence (4 ∷ 0 ∷ [])) ≡ Some (record { rule = C11; file = Sizes; term = 1; place = 0 })
sizes-length = refl

more-sizes : end_fault 3 1 [] (number_sequence (4 ∷ 0 ∷ 7 ∷ []) ++ 0 ∷ []) ≡ Some (record { rule = C12; file = Sizes; term = 1; place = 3 })
more-sizes = refl

cut-sizes : end_fault 2 3 [] (le32 2 ++ le32 1 ++ 1 ∷ 0 ∷ 0 ∷ []) ≡ Some (record { rule = C1; file = Sizes; term = 3; place = 1 })
cut-sizes = refl

all-sizes : end_fault 3 1 [] (number_sequence (4 ∷ 0 ∷ 7 ∷ [])) ≡ None
all-sizes = refl

-- one number below 1 there is
below_one : (P : ℕ → Type 0) → P 0 → (j : ℕ) → j < 1 → P j
below_one P p zero lt = p
below_one P p (suc j) lt = absurd (omega (arith, lt))

below_zero : (P : ℕ → Type 0) → (j : ℕ) → j < 0 → P j
below_zero P j lt = absurd (omega (arith, lt))

below_two : (P : ℕ → Type 0) → P 0 → P 1 → (j : ℕ) → j < 2 → P j
below_two P p q zero lt = p
below_two P p q (suc zero) lt = q
below_two P p q (suc (suc j)) lt = absurd (omega (arith, lt))

-- documents 4 4 below 5
pub not-increasing : (format : FormatNumbers) → IsListFault format 5 0 (number_sequence (4 ∷ 4 ∷ [])) [] (record { rule = C5; file = Docs; term = 0; place = 1 })
not-increasing format = inl (1, C5, lit< tt, refl, below_one (λ j. doc_break 5 (number_sequence (4 ∷ 4 ∷ [])) j ≡ None) refl, refl)

-- the document 3 below 3
pub out-of-range : (format : FormatNumbers) → IsListFault format 3 0 (number_sequence (3 ∷ [])) [] (record { rule = C4; file = Docs; term = 0; place = 0 })
out-of-range format = inl (0, C4, lit< tt, refl, below_zero (λ j. doc_break 3 (number_sequence (3 ∷ [])) j ≡ None), refl)

-- frequencies 1 0
pub zero-frequency : (format : FormatNumbers) → 1 ≤ format.most_sum → IsListFault format 3 0 (number_sequence (0 ∷ 2 ∷ [])) (number_sequence (1 ∷ 0 ∷ [])) (record { rule = C7; file = Freqs; term = 0; place = 1 })
zero-frequency format some = inr (below_two (λ j. doc_break 3 (number_sequence (0 ∷ 2 ∷ [])) j ≡ None) refl refl, inl (1, C7, lit< tt, refl, below_one (λ j. freq_break format (number_sequence (1 ∷ 0 ∷ [])) j ≡ None) (freq_break-none format (number_sequence (1 ∷ 0 ∷ [])) 0 refl (lit< tt) some), refl))

-- no frequencies, and three of them for two documents
pub no-freqs : (format : FormatNumbers) → IsListFault format 3 0 (number_sequence (0 ∷ 2 ∷ [])) [] (record { rule = C1; file = Freqs; term = 0; place = 0 })
no-freqs format = inr (below_two (λ j. doc_break 3 (number_sequence (0 ∷ 2 ∷ [])) j ≡ None) refl refl, refl)

pub length-differs : (format : FormatNumbers) → IsListFault format 3 0 (number_sequence (0 ∷ 2 ∷ [])) (number_sequence (1 ∷ 5 ∷ 1 ∷ [])) (record { rule = C6; file = Freqs; term = 0; place = 0 })
length-differs format = inr (below_two (λ j. doc_break 3 (number_sequence (0 ∷ 2 ∷ [])) j ≡ None) refl refl, refl)

-- a list cut in its length
cut-length : (format : FormatNumbers) → IsListFault format 3 1 (2 ∷ 0 ∷ []) [] (record { rule = C1; file = Docs; term = 1; place = 0 })
cut-length format = refl

-- sixteen frequencies 4294967295 and then 16 sum to 2 ^ 36; with 17 they sum to more, which the second format has room for
sum-fits : freq_break format_one (number_sequence (replicate 16 4294967295 ++ 16 ∷ [])) 16 ≡ None
sum-fits = refl

sum-too-large : freq_break format_one (number_sequence (replicate 16 4294967295 ++ 17 ∷ [])) 16 ≡ Some C8
sum-too-large = refl

sum-fits-in_two : freq_break format_two (number_sequence (replicate 16 4294967295 ++ 17 ∷ [])) 16 ≡ None
sum-fits-in_two = refl

none_not_some : (rule : Rule) → doc_break 5 (number_sequence (4 ∷ 4 ∷ [])) 0 ≡ Some rule → ⊥
none_not_some rule e = cc

zero_not_suc : (k : ℕ) → zero ≡ suc k → ⊥
zero_not_suc k e = cc

docs_not_freqs : Docs ≡ Freqs → ⊥
docs_not_freqs e = cc

-- a wrong answer is no fault of these files
not-that-place : (format : FormatNumbers) → IsListFault format 5 0 (number_sequence (4 ∷ 4 ∷ [])) [] (record { rule = C5; file = Docs; term = 0; place = 0 }) → ⊥
not-that-place format (inl (zero, rule, lt, at, first, e)) = absurd (none_not_some rule at)
not-that-place format (inl (suc k, rule, lt, at, first, e)) = absurd (zero_not_suc k (ap (λ f. f.place) e))
not-that-place format (inr (ok, e)) = absurd (docs_not_freqs (ap (λ f. f.file) e))
