-- Lemmas on the one index and the one first broken check of some words.
use Rattle.std.proofs.Common.{◌≡◌, ℕ, ◌+◌, ◌/◌, ◌%◌, ◌^◌, ◌-◌, List, length, refl, inl, inr, sym, ◌∙◌, subst, arith}
use Rattle.std.specs.Prelude.{◌⊎◌, ◌≢◌, ◌==◌, not, nat_lt, slice_index, Option, Some, None, MatchBool, MatchOption}
use Rattle.collection_model.specs.FormatNumbers.{FormatNumbers}
use Rattle.collection_model.specs.Collection.{Collection}
use Rattle.part_cost.specs.Formats.{HasRoom}
use Rattle.sequence_words.specs.declared.check.Check.{Check}
use Rattle.sequence_words.specs.declared.check.Check.TheVariants.{K6, K11}
use Rattle.two_level.specs.Laws.{WordsState}
use Rattle.two_level.specs.SequenceFault.{word_behind}
use Rattle.index_file.specs.declared.fault.OpenFault.{OpenFault}
use Rattle.index_file.specs.FileWords.{ListParts, lists_words, SpellsPlain}
use Rattle.index_file.specs.FirstBroken.{stated_documents, stated_terms, stated_sizes, directory_word, stated_length, stated_doc_parts, stated_freq_parts, up_to_sizes, frame_broken, IsFreqsFault, IsTermFault, IsClosingFault, IsFirstBrokenPlain}
use Rattle.index_file.specs.Laws.{SequenceLaws}
use Rattle.index_file.proofs.Agree.{match-agree, first-agree}
use Rattle.index_file.proofs.TermFaults.{IsAt, docs_cannot_begin, freqs_cannot_begin, InDocs, InFreqs, PassButGreatest}
use Rattle.index_file.proofs.Prefixes.{stand-from, prefix-pieces, stand-same}
use Rattle.index_file.proofs.Frames.{BreaksBehind, frame-stands}
use Rattle.index_file.proofs.StatedIndex.{collection-is, parts-are}

both : (f g : OpenFault) (t : ℕ) (k : Check) (q : ℕ) → IsAt f t k q → IsAt g t k q → f ≡ g
both f g t k q a b = a ∙ sym b

freqs-one : (format : FormatNumbers) (words : List ℕ) (t p : ℕ) (f g : OpenFault) → IsFreqsFault format words t p f → IsFreqsFault format words t p g → f ≡ g
freqs-one format words t p f g h k =
    let before : ℕ = stated_doc_parts words t in
    let rest : List ℕ = up_to_sizes words p in
    elim (match-agree (freqs_cannot_begin format words t p) (IsAt f t K6 before) (InFreqs format words t p f) (IsAt g t K6 before) (InFreqs format words t p g) h k) [
      | inl (a, b) ↦ both f g t K6 before a b
      | inr (a, b) ↦
          elim (first-agree format rest (stated_freq_parts words t) (stated_length words t) format.most_sum (λ check q. IsAt f t check (before + q)) (λ check q. IsAt g t check (before + q)) (PassButGreatest format words t p f) (PassButGreatest format words t p g) a b) [
            | inl (check, q, x, y) ↦ both f g t check (before + q) x y
            | inr (x, y) ↦ x.1 ∙ sym y.1
          ]
    ]

term-one : (format : FormatNumbers) (words : List ℕ) (t p : ℕ) (f g : OpenFault) → IsTermFault format words t p f → IsTermFault format words t p g → f ≡ g
term-one format words t p f g h k =
    let rest : List ℕ = up_to_sizes words p in
    let next : ℕ = p + word_behind format rest (stated_doc_parts words t) in
    elim (match-agree (docs_cannot_begin format words t p) (IsAt f t K6 0) (InDocs format words t p f) (IsAt g t K6 0) (InDocs format words t p g) h k) [
      | inl (a, b) ↦ both f g t K6 0 a b
      | inr (a, b) ↦
          elim (first-agree format rest (stated_doc_parts words t) (stated_length words t) (stated_documents words) (IsAt f t) (IsAt g t) (IsFreqsFault format words t next f) (IsFreqsFault format words t next g) a b) [
            | inl (check, q, x, y) ↦ both f g t check q x y
            | inr (x, y) ↦ freqs-one format words t next f g x y
          ]
    ]

abbrev pub IsUnfilled : List ℕ → OpenFault → Type 0
IsUnfilled words f = (slice_index words (directory_word words - 1) / 2 ^ 32 ≢ 0) × (stated_documents words % 2 ≡ 1) × (f ≡ record { check = K11; term = 0; part = 0 })

closing-one : (words : List ℕ) (p : ℕ) (f g : OpenFault) → IsClosingFault words p f → IsClosingFault words p g → f ≡ g
closing-one words p f g h k =
    elim (match-agree (not (p == stated_sizes words)) (IsAt f (stated_terms words) K6 0) (IsUnfilled words f) (IsAt g (stated_terms words) K6 0) (IsUnfilled words g) h k) [
      | inl (a, b) ↦ both f g (stated_terms words) K6 0 a b
      | inr (a, b) ↦ a.2 ∙ sym b.2
    ]

behind-one : (format : FormatNumbers) (room : HasRoom format) → SequenceLaws format → (words : List ℕ) (f g : OpenFault) → frame_broken format words ≡ None → BreaksBehind format words f → BreaksBehind format words g → f ≡ g
behind-one format room laws words f g e (cs, lc, mf) (ds, ld, mg) =
    let frame = frame-stands format words e in
    let same : length cs ≡ length ds = omega (arith, lc.longest ds ld.prefix, ld.longest cs lc.prefix) in
    let is : cs ≡ ds = stand-same format room laws words 0 2 cs ds frame (stand-from format words 0 2 cs (prefix-pieces format words cs lc.prefix)) (stand-from format words 0 2 ds (prefix-pieces format words ds ld.prefix)) same in
    let p : ℕ = 2 + length (lists_words format cs) in
    let moved : MatchBool (nat_lt (length cs) (stated_terms words)) (IsTermFault format words (length cs) (2 + length (lists_words format cs)) g) (IsClosingFault words (2 + length (lists_words format cs)) g) =
    subst (λ x. MatchBool (nat_lt (length x) (stated_terms words)) (IsTermFault format words (length x) (2 + length (lists_words format x)) g) (IsClosingFault words (2 + length (lists_words format x)) g)) (sym is) mg in
    elim (match-agree (nat_lt (length cs) (stated_terms words)) (IsTermFault format words (length cs) p f) (IsClosingFault words p f) (IsTermFault format words (length cs) p g) (IsClosingFault words p g) mf moved) [
      | inl (a, b) ↦ term-one format words (length cs) p f g a b
      | inr (a, b) ↦ closing-one words p f g a b
    ]

pub cases-option : (o : Option Check) → (o ≡ None) ⊎ ((k : Check) × (o ≡ Some k))
cases-option None = inl refl
cases-option (Some k) = inr (k, refl)

pub match-at-none : (o : Option Check) (P : Type 0) (Q : Check → Type 0) → o ≡ None → MatchOption o P Q → P
match-at-none o P Q e h = subst (λ x. MatchOption x P Q) e h

pub match-at-some : (o : Option Check) (k : Check) (P : Type 0) (Q : Check → Type 0) → o ≡ Some k → MatchOption o P Q → Q k
match-at-some o k P Q e h = subst (λ x. MatchOption x P Q) e h

pub one-fault : (format : FormatNumbers) (room : HasRoom format) → SequenceLaws format → (words : List ℕ) (f g : OpenFault) → IsFirstBrokenPlain format words f → IsFirstBrokenPlain format words g → f ≡ g
one-fault format room laws words f g h k =
    elim (cases-option (frame_broken format words)) [
      | inl e ↦
          behind-one format room laws words f g e (match-at-none (frame_broken format words) (BreaksBehind format words f) (λ check. IsAt f 0 check 0) e h)
          (match-at-none (frame_broken format words) (BreaksBehind format words g) (λ check. IsAt g 0 check 0) e k)
      | inr (check, e) ↦
          both f g 0 check 0 (match-at-some (frame_broken format words) check (BreaksBehind format words f) (λ check. IsAt f 0 check 0) e h)
          (match-at-some (frame_broken format words) check (BreaksBehind format words g) (λ check. IsAt g 0 check 0) e k)
    ]

-- in a format the words of a plain file spell one collection
pub one-plain : (format : FormatNumbers) (room : HasRoom format) → SequenceLaws format → WordsState format → (words : List ℕ) (c d : Collection) (e f : List ListParts)
    → SpellsPlain format words c e → SpellsPlain format words d f → (c ≡ d) × (e ≡ f)
one-plain format room laws state words c d e f h k = (
  sym (collection-is format room laws state words c e h) ∙ collection-is format room laws state words d f k,
  sym (parts-are format room laws state words c e h) ∙ parts-are format room laws state words d f k,
)
