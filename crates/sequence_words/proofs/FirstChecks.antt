-- Lemmas on the first check of a sequence that breaks, whatever is said of it and of what comes later.
use Rattle.std.proofs.Common.{◌≡◌, ℕ, ◌*◌, ◌≤◌, Bool, true, false, List, length, inl, inr, subst}
use Rattle.std.specs.Prelude.{◌||◌, not, nat_lt, MatchBool}
use Rattle.std.proofs.lemmas.Bool.{both_ways, le-ltb}
use Rattle.collection_model.specs.FormatNumbers.{FormatNumbers, entry_words}
use Rattle.sequence_words.specs.declared.check.Check.{Check}
use Rattle.sequence_words.specs.declared.check.Check.TheVariants.{K6}
use Rattle.sequence_words.specs.SequenceFault.{OrElse, FirstOf, word_behind, parts_fit, entry_breaks, FirstInSequence, IsSequenceFault, PassChecks}
use Rattle.sequence_words.proofs.Choices.{unmatch, match-false}
use Rattle.sequence_words.proofs.Follows.{Found, prefix-test}

-- what is found, and what holds later, may be said otherwise
first-of-map : (B F G : ℕ → Type 0) (n : ℕ) (L M : Type 0) → ((q : ℕ) → F q → G q) → (L → M) → FirstOf B n F L → FirstOf B n G M
first-of-map B F G n L M found later h = elim h [ inl (q, lt, breaks, before, here) ↦ inl (q, lt, breaks, before, found q here) | inr (none, rest) ↦ inr (none, later rest) ]

match-map : (a : Bool) (P Q R S : Type 0) → (P → R) → (Q → S) → MatchBool a P Q → MatchBool a R S
match-map true P Q R S f g h = f h
match-map false P Q R S f g h = g h

or-else-map : (A H K L M : Type 0) → (H → K) → (L → M) → OrElse A H L → OrElse A K M
or-else-map A H K L M here later h = elim h [ inl (a, x) ↦ inl (a, here x) | inr (none, x) ↦ inr (none, later x) ]

first-map : (format : FormatNumbers) (words : List ℕ) (parts m bound : ℕ) (F G : Check → ℕ → Type 0) (L M : Type 0) → ((k : Check) (q : ℕ) → F k q → G k q) → (L → M)
    → FirstInSequence format words parts m bound F L → FirstInSequence format words parts m bound G M
first-map format words parts m bound F G L M found later =
    first-of-map _ _ _ parts _ _ (found _)
    (match-map _ _ _ _ _ (found _ parts)
    (first-of-map _ _ _ parts _ _ (found _)
    (or-else-map _ _ _ _ _ (found _ 0) later)))

-- words that pass every check leave what comes later
pub passed : (format : FormatNumbers) (words : List ℕ) (parts m bound : ℕ) (F : Check → ℕ → Type 0) (L : Type 0) → PassChecks format words parts m bound → L
    → FirstInSequence format words parts m bound F L
passed format words parts m bound F L pass later =
    inr (
      λ q lt e. both_ways (entry_breaks format words parts m bound q) (pass.entries q lt) e,
      match-false (nat_lt (length words) (word_behind format words parts)) _ _ (le-ltb (length words) (word_behind format words parts) pass.within)
          (inr (λ q lt missing. missing (pass.stored q lt), inr (λ ones. ones pass.filled, later))),
    )

-- where the parts and their entries fit, the first check that words break is what is found
pub faulty : (format : FormatNumbers) (words : List ℕ) (parts m bound : ℕ) (check : Check) (part : ℕ) (F : Check → ℕ → Type 0) (L : Type 0)
    → parts_fit m parts ≡ true → entry_words format * parts ≤ length words → IsSequenceFault format words parts m bound check part → F check part
    → FirstInSequence format words parts m bound F L
faulty format words parts m bound check part F L fit room fault here =
    first-map format words parts m bound (Found check part) F ⊥ L
    (λ k q e. subst (λ j. F j q) e.0 (subst (λ i. F check i) e.1 here)) (λ no. absurd no)
    (unmatch (not (parts_fit m parts) || nat_lt (length words) (entry_words format * parts)) ((check ≡ K6) × (part ≡ 0))
    (FirstInSequence format words parts m bound (Found check part) ⊥) (prefix-test format words parts m fit room) fault)
