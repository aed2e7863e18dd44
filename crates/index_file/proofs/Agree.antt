-- Lemmas on two first checks of the same words.
use Rattle.std.proofs.Common.{◌≡◌, ℕ, ◌<◌, Bool, true, false, List, inl, inr, sym, subst, arith}
use Rattle.std.specs.Prelude.{◌⊎◌, MatchBool}
use Rattle.std.proofs.lemmas.Bool.{cases_lt}
use Rattle.collection_model.specs.FormatNumbers.{FormatNumbers}
use Rattle.sequence_words.specs.declared.check.Check.{Check}
use Rattle.sequence_words.specs.declared.check.Check.TheVariants.{K7, K8, K9}
use Rattle.two_level.specs.SequenceFault.{OrElse, FirstOf, FirstInSequence, PassChecks}
use Rattle.sequence_words.proofs.FirstChecks.{passed}

same-by : (q r : ℕ) → (q < r → ⊥) → (r < q → ⊥) → q ≡ r
same-by q r a b =
    elim (cases_lt q r) [
      | inl lt ↦ absurd (a lt)
      | inr le ↦ elim (cases_lt r q) [ inl lt ↦ absurd (b lt) | inr other ↦ omega arith ]
    ]

-- both find the same, or both go on
pub first-of-agree : (B F G : ℕ → Type 0) (n : ℕ) (L M : Type 0) → FirstOf B n F L → FirstOf B n G M → ((q : ℕ) × F q × G q) ⊎ (L × M)
first-of-agree B F G n L M h k =
    elim h [
      | inl (q, lt, breaks, before, f) ↦
          elim k [
            | inl (r, less, cuts, earlier, g) ↦
                let e : q ≡ r = same-by q r (λ l. earlier q l breaks) (λ l. before r l cuts) in inl (q, f, subst G (sym e) g)
            | inr (none, m) ↦ absurd (none q lt breaks)
          ]
      | inr (none, l) ↦ elim k [ inl (r, less, cuts, earlier, g) ↦ absurd (none r less cuts) | inr (never, m) ↦ inr (l, m) ]
    ]

pub match-agree : (a : Bool) (P Q R S : Type 0) → MatchBool a P Q → MatchBool a R S → (P × R) ⊎ (Q × S)
match-agree true P Q R S h k = inl (h, k)
match-agree false P Q R S h k = inr (h, k)

pub or-else-agree : (A H K L M : Type 0) → OrElse A H L → OrElse A K M → (H × K) ⊎ (L × M)
or-else-agree A H K L M h k =
    elim h [
      | inl (a, x) ↦ elim k [ inl (b, y) ↦ inl (x, y) | inr (none, y) ↦ absurd (none a) ]
      | inr (none, x) ↦ elim k [ inl (b, y) ↦ absurd (none b) | inr (never, y) ↦ inr (x, y) ]
    ]

-- what two find together
abbrev pub Both : (Check → ℕ → Type 0) → (Check → ℕ → Type 0) → Type 0
Both F G = (k : Check) × (q : ℕ) × F k q × G k q

from-found : (F G : Check → ℕ → Type 0) (k : Check) (L M X Y : Type 0) → ((q : ℕ) × F k q × G k q) ⊎ (L × M) → (L → M → Both F G ⊎ (X × Y)) → Both F G ⊎ (X × Y)
from-found F G k L M X Y h more = elim h [ inl (q, f, g) ↦ inl (k, q, f, g) | inr (l, m) ↦ more l m ]

from-here : (F G : Check → ℕ → Type 0) (k : Check) (q : ℕ) (L M X Y : Type 0) → (F k q × G k q) ⊎ (L × M) → (L → M → Both F G ⊎ (X × Y)) → Both F G ⊎ (X × Y)
from-here F G k q L M X Y h more = elim h [ inl (f, g) ↦ inl (k, q, f, g) | inr (l, m) ↦ more l m ]

pub first-agree : (format : FormatNumbers) (words : List ℕ) (parts m bound : ℕ) (F G : Check → ℕ → Type 0) (L M : Type 0)
    → FirstInSequence format words parts m bound F L → FirstInSequence format words parts m bound G M → Both F G ⊎ (L × M)
first-agree format words parts m bound F G L M h k =
    from-found F G K7 _ _ L M (first-of-agree _ (F K7) (G K7) parts _ _ h k)
    (λ h1 k1. from-here F G K7 parts _ _ L M (match-agree _ _ _ _ _ h1 k1)
    (λ h2 k2. from-found F G K8 _ _ L M (first-of-agree _ (F K8) (G K8) parts _ _ h2 k2)
    (λ h3 k3. from-here F G K9 0 L M L M (or-else-agree _ _ _ _ _ h3 k3) (λ l m. inr (l, m)))))

-- where none breaks, what comes later holds
pub later-of : (format : FormatNumbers) (words : List ℕ) (parts m bound : ℕ) (F : Check → ℕ → Type 0) (L : Type 0) → PassChecks format words parts m bound
    → FirstInSequence format words parts m bound F L → L
later-of format words parts m bound F L pass h =
    elim (first-agree format words parts m bound F (λ k q. ⊥) L (Unit {0}) h (passed format words parts m bound (λ k q. ⊥) (Unit {0}) pass tt)) [
      | inl (k, q, f, no_fault) ↦ absurd no_fault
      | inr (l, m) ↦ l
    ]
