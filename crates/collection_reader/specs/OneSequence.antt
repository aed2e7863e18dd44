use Rattle.std.specs.Prelude.{◌≡◌, ℕ, ◌^◌, ◌<◌, ◌≤◌, ◌==◌, not, IsTrue, List, [], ◌++◌, length, sum, Result, Err, OnOk, IfOk, MatchBool, Some}
use Rattle.std.specs.List.{All}
use Rattle.std.specs.List.Sorted.{IsStrictlyIncreasing}
use Rattle.collection_model.specs.FormatNumbers.{FormatNumbers}
use Rattle.collection_model.specs.Bytes.{number_sequence}
use Rattle.collection_model.specs.Spelling.{head_bytes}
use Rattle.io_traits.specs.declared.fail.Slot.TheVariants.{Docs, Freqs, Sizes}
use Rattle.io_traits.specs.DepotState.{DepotState}
use Rattle.collection_reader.specs.declared.fault.Rule.TheVariants.{C1, C6}
use Rattle.collection_reader.specs.declared.fault.Fault.{Fault}
use Rattle.collection_reader.specs.declared.fault.CollError.{CollError}
use Rattle.collection_reader.specs.declared.fault.CollError.TheVariants.{Broken}
use Rattle.collection_reader.specs.FirstFault.{number_at, lacks, FirstBreak, head_fault, doc_break, freq_break, end_fault}
use Rattle.held_pieces.specs.Pieces.{rest_of}
use Rattle.collection_reader.specs.OneFile.{ReadsFrom}

-- The fault is the first in the document sequence of term t, which begins these bytes.
abbrev pub IsDocsFault : ℕ → ℕ → List ℕ → Fault → Type 0
IsDocsFault n t bytes fault =
    MatchBool (lacks bytes 0) (fault ≡ record { rule = C1; file = Docs; term = t; place = 0 })
    (FirstBreak (doc_break n bytes) (number_at bytes 0) (λ k rule. fault ≡ record {
      rule = rule;
      file = Docs;
      term = t;
      place = k;
    }) ⊥)

-- The fault is the first in the frequency sequence of term t, which begins these bytes and is as
-- long as the list.
abbrev pub IsFreqsFault : FormatNumbers → ℕ → ℕ → List ℕ → Fault → Type 0
IsFreqsFault format t count bytes fault =
    MatchBool (lacks bytes 0) (fault ≡ record { rule = C1; file = Freqs; term = t; place = 0 })
    (MatchBool (not (number_at bytes 0 == count)) (fault ≡ record {
      rule = C6;
      file = Freqs;
      term = t;
      place = 0;
    })
    (FirstBreak (freq_break format bytes) (number_at bytes 0) (λ k rule. fault ≡ record {
      rule = rule;
      file = Freqs;
      term = t;
      place = k;
    }) ⊥))

-- The head is read, or its fault is found.
pub record ReadsHead (format : FormatNumbers) (held held_after : List ℕ) (old new : DepotState)
    (result : Result ℕ CollError) : Type 0 where
  pub within : IfOk result (λ n. n ≤ format.most_documents)
  pub rest : IsTrue old.tells
      → IfOk result (λ n. rest_of held old Docs ≡ head_bytes n ++ rest_of held_after new Docs)
  pub first_fault : IsTrue old.tells → (fault : Fault) → result ≡ Err (Broken fault)
      → head_fault format (rest_of held old Docs) ≡ Some fault
  pub depot : ReadsFrom (λ s. s ≡ Docs) old new result
  pub fault_term : (fault : Fault) → result ≡ Err (Broken fault) → fault.term ≡ 0

-- The documents of term t are read, or the first fault among them is found.
pub record ReadsDocuments (n t : ℕ) (held held_after : List ℕ) (old new : DepotState)
    (docs : List ℕ) (result : Result (Unit {0}) CollError) : Type 0 where
  pub rising : OnOk result (IsStrictlyIncreasing docs)
  pub in_range : OnOk result (All (λ d. d < n) docs)
  pub few : OnOk result (length docs < 2 ^ 32)
  pub rest : IsTrue old.tells
      → OnOk result (rest_of held old Docs ≡ number_sequence docs ++ rest_of held_after new Docs)
  pub first_fault : IsTrue old.tells → (fault : Fault) → result ≡ Err (Broken fault)
      → IsDocsFault n t (rest_of held old Docs) fault
  pub depot : ReadsFrom (λ s. s ≡ Docs) old new result
  pub fault_term : (fault : Fault) → result ≡ Err (Broken fault) → fault.term ≡ t

-- The frequencies of term t are read, as many as its documents, or the first fault among them is
-- found.
pub record ReadsFrequencies (format : FormatNumbers) (t expected : ℕ) (held held_after : List ℕ)
    (old new : DepotState) (freqs : List ℕ) (result : Result (Unit {0}) CollError) : Type 0 where
  pub count : OnOk result (length freqs ≡ expected)
  pub not_zero : OnOk result (All (λ f. 1 ≤ f) freqs)
  pub fit : OnOk result (All (λ f. f < 2 ^ 32) freqs)
  pub sum_within : OnOk result (sum freqs ≤ format.most_sum)
  pub rest : IsTrue old.tells
      → OnOk result (rest_of held old Freqs ≡ number_sequence freqs ++ rest_of held_after new Freqs)
  pub first_fault : IsTrue old.tells → (fault : Fault) → result ≡ Err (Broken fault)
      → IsFreqsFault format t expected (rest_of held old Freqs) fault
  pub depot : ReadsFrom (λ s. s ≡ Freqs) old new result
  pub fault_term : (fault : Fault) → result ≡ Err (Broken fault) → fault.term ≡ t

-- The sizes are read to the end of their file, or the first fault behind the lists is found, where
-- the frequencies are used up.
pub record ReadsToEnd (n t : ℕ) (held held_after : List ℕ) (old new : DepotState) (sizes : List ℕ)
    (result : Result (Unit {0}) CollError) : Type 0 where
  pub count : OnOk result (length sizes ≡ n)
  pub rest : IsTrue old.tells → OnOk result (rest_of held old Sizes ≡ number_sequence sizes)
  pub none_left : IsTrue old.tells → OnOk result (rest_of held_after new Sizes ≡ [])
  pub first_fault : IsTrue old.tells → (fault : Fault) → result ≡ Err (Broken fault)
      → end_fault n t [] (rest_of held old Sizes) ≡ Some fault
  pub depot : ReadsFrom (λ s. s ≡ Sizes) old new result
  pub fault_term : (fault : Fault) → result ≡ Err (Broken fault) → fault.term ≡ t
