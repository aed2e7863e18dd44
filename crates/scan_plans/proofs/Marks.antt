-- Lemmas on marked documents, a bit for each.
use Rattle.std.proofs.Common.{◌≡◌, refl, sym, ap, inl, inr, ◌∙◌, subst, ℕ, ◌+◌, ◌-◌, ◌*◌, ◌/◌, ◌%◌, ◌^◌, ◌<◌, ◌≤◌, ◌≢◌, Bool, true, false, eqb, List, [], ◌∷◌, ◌++◌, length, get_or, set, bit_and, bit_or, arith}
use Rattle.std.specs.Int.{w64, bit_at, bit_not, trailing_zeros}
use Rattle.std.specs.List.{All}
use Rattle.std.proofs.lemmas.Bool.{cases_lt, cases_eq, eq-eqb, eqb-false, ne_eqb}
use Rattle.std.proofs.lemmas.List.{get_or-set_same, get_or-set_other}
use Rattle.std.proofs.lemmas.Nat.Bits.{bit_at_ones, bit_at_set_same, bit_at_set_other, bit_at_clear_same, bit_at_clear_other, bit_at-trailing_zeros, bit_at-lt, bit_at-zero, bit_at_above, same_from_bits}
use Rattle.std.proofs.lemmas.Nat.{and_le_l}
use Rattle.scan_plans.specs.Window.{is_marked, passing, AreMarkedBy, IsMarkedWord, AllAreMarked}
use Rattle.scan_plans.proofs.Scans.{filter-skip, filter-yes}

-- ---- a mark that is set
module _ (marks : List ℕ) (at : ℕ) where
  abbrev pub marked-word : ℕ
  marked-word = bit_or (get_or marks (at / 64) 0) (1 * 2 ^ (at % 64) % 2 ^ 64)

  pub mark-same : at / 64 < length marks → is_marked (set marks (at / 64) marked-word) at ≡ true
  mark-same within =
      ap (λ (w : ℕ). eqb (bit_at w (at % 64)) 1) (get_or-set_same marks (at / 64) marked-word 0 within)
      ∙ eq-eqb _ 1 (bit_at_set_same w64 (get_or marks (at / 64) 0) (at % 64) (omega arith))

  pub mark-other : (k : ℕ) → k ≢ at → at / 64 < length marks → is_marked (set marks (at / 64) marked-word) k ≡ is_marked marks k
  mark-other k other within = elim (cases_eq (k / 64) (at / 64)) as (λ _. is_marked (set marks (at / 64) marked-word) k ≡ is_marked marks k) [
    | inl same ↦ (let apart : k % 64 ≢ at % 64 = omega arith in
        ap (λ (i : ℕ). eqb (bit_at (get_or (set marks (at / 64) marked-word) i 0) (k % 64)) 1) same
        ∙ ap (λ (w : ℕ). eqb (bit_at w (k % 64)) 1) (get_or-set_same marks (at / 64) marked-word 0 within)
        ∙ ap (λ (b : ℕ). eqb b 1) (bit_at_set_other w64 (get_or marks (at / 64) 0) (at % 64) (omega arith) (k % 64) apart)
        ∙ ap (λ (i : ℕ). eqb (bit_at (get_or marks i 0) (k % 64)) 1) (sym same))
    | inr apart ↦ ap (λ (w : ℕ). eqb (bit_at w (k % 64)) 1) (get_or-set_other marks (at / 64) (k / 64) marked-word 0 apart)
  ]

-- bit k of word i
pub marked-at : (marks : List ℕ) (i k : ℕ) → k < 64 → is_marked marks (64 * i + k) ≡ eqb (bit_at (get_or marks i 0) k) 1
marked-at marks i k lt =
    let word : (64 * i + k) / 64 ≡ i = omega arith in
    let bit : (64 * i + k) % 64 ≡ k = omega arith in
    ap (λ (j : ℕ). eqb (bit_at (get_or marks j 0) ((64 * i + k) % 64)) 1) word ∙ ap (λ (j : ℕ). eqb (bit_at (get_or marks i 0) j) 1) bit

-- nothing is marked in words that are 0
pub unmarked : (marks : List ℕ) → All (λ w. w ≡ 0) marks → (k : ℕ) → k < 64 * length marks → is_marked marks k ≡ false
unmarked marks clear k within = ap (λ (w : ℕ). eqb (bit_at w (k % 64)) 1) (clear (k / 64) 0 (omega arith)) ∙ ne_eqb _ 1 (λ e. let zero = bit_at-zero (k % 64) in absurd (omega arith))

-- a bit that is not 1 is 0
bit-zero : (n k : ℕ) → eqb (bit_at n k) 1 ≡ false → bit_at n k ≡ 0
bit-zero n k not = let other = eqb-false _ 1 not in let lt = bit_at-lt n k in omega arith

-- a word of which nothing is marked is 0
pub word-unmarked : (marks : List ℕ) (i : ℕ) → get_or marks i 0 < 2 ^ 64 → ((k : ℕ) → k < 64 → is_marked marks (64 * i + k) ≡ false) → get_or marks i 0 ≡ 0
word-unmarked marks i fits none = same_from_bits (get_or marks i 0) 0 (λ k. elim (cases_lt k 64) as (λ _. bit_at (get_or marks i 0) k ≡ bit_at 0 k) [
  | inl lt ↦ bit-zero (get_or marks i 0) k (sym (marked-at marks i k lt) ∙ none k lt) ∙ sym (bit_at-zero k)
  | inr ge ↦ bit_at_above (get_or marks i 0) 64 k fits ge ∙ sym (bit_at-zero k)
])

-- ---- the ones of a word, the lowest first
-- those below a place were taken from it
pub record IsRest (word low rest : ℕ) : Type 0 where
  pub within : low ≤ 64
  pub taken : (k : ℕ) → k < low → bit_at rest k ≡ 0
  pub same : (k : ℕ) → low ≤ k → k < 64 → bit_at rest k ≡ bit_at word k

pub rest-all : (word : ℕ) → IsRest word 0 word
rest-all word = record { within = omega arith; taken = λ k lt. absurd (omega arith); same = λ k from lt. refl }

abbrev pub less-lowest : ℕ → ℕ
less-lowest rest = bit_and rest (bit_not w64 (1 * 2 ^ trailing_zeros w64 rest % 2 ^ 64))

module _ (word low rest : ℕ) (some : 0 < rest) (fits : rest < 2 ^ 64) (so_far : IsRest word low rest) where
  abbrev pub lowest : ℕ
  lowest = trailing_zeros w64 rest

  lowest-is : (lowest < 64) × (bit_at rest lowest ≡ 1) × ((i : ℕ) → i < lowest → bit_at rest i ≡ 0)
  lowest-is = bit_at-trailing_zeros w64 rest some fits

  pub lowest-from : low ≤ lowest
  lowest-from = elim (cases_lt lowest low) as (λ _. low ≤ lowest) [
    | inl lt ↦ (let none = so_far.taken lowest lt in let one = lowest-is.1 in absurd (omega arith))
    | inr ge ↦ ge
  ]

  pub lowest-one : (lowest < 64) × (bit_at word lowest ≡ 1)
  lowest-one = (lowest-is.0, sym (so_far.same lowest lowest-from lowest-is.0) ∙ lowest-is.1)

  pub none-between : (k : ℕ) → low ≤ k → k < lowest → bit_at word k ≡ 0
  none-between k from before = let lt = lowest-is.0 in sym (so_far.same k from (omega arith)) ∙ lowest-is.2 k before

  pub rest-more : IsRest word (lowest + 1) (less-lowest rest)
  rest-more =
      let lt = lowest-is.0 in
      let start = lowest-from in
      record {
        within = omega arith;
        taken = λ k before. elim (cases_lt k lowest) as (λ _. bit_at (less-lowest rest) k ≡ 0) [
          | inl below ↦ bit_at_clear_other w64 rest lowest lt k (omega arith) (omega arith) ∙ lowest-is.2 k below
          | inr here ↦ (let at : lowest ≡ k = omega arith in subst (λ (j : ℕ). bit_at (less-lowest rest) j ≡ 0) at (bit_at_clear_same w64 rest lowest lt))
        ];
        same = λ k from within. bit_at_clear_other w64 rest lowest lt k within (omega arith) ∙ so_far.same k (omega arith) within;
      }

  pub rest-less : less-lowest rest < rest
  rest-less =
      let le = and_le_l rest (bit_not w64 (1 * 2 ^ lowest % 2 ^ 64)) in
      elim (cases_lt (less-lowest rest) rest) as (λ _. less-lowest rest < rest) [
        | inl lt ↦ lt
        | inr ge ↦ (let same : less-lowest rest ≡ rest = omega arith in
            let zero = bit_at_clear_same w64 rest lowest lowest-is.0 in let one = lowest-is.1 in let both = ap (λ (n : ℕ). bit_at n lowest) same in absurd (omega arith))
      ]

-- the documents of the ones below a place were added
pub record IsTaken (base low word : ℕ) (old now : List ℕ) : Type 0 where
  pub docs : (test : ℕ → Bool) → IsMarkedWord test base word → old ≡ passing test base → now ≡ passing test (base + low)

pub taken-none : (base word : ℕ) (old : List ℕ) → IsTaken base 0 word old old
taken-none base word old = record { docs = λ test marked is. let start : base ≡ base + 0 = omega arith in is ∙ ap (passing test) start }

taken-skip : (base low high word : ℕ) (old now : List ℕ) → low ≤ high → high ≤ 64 → ((k : ℕ) → low ≤ k → k < high → bit_at word k ≡ 0) → IsTaken base low word old now → IsTaken base high word old now
taken-skip base low high word old now le within none so_far = record {
  docs = λ test marked is.
      let nothing : (e : ℕ) → base + low ≤ e → e < base + high → test e ≡ false = λ e from lt.
      let k : ℕ = e - base in
      let at : base + k ≡ e = omega arith in
      subst (λ (d : ℕ). test d ≡ false) at (sym (marked k (omega arith)) ∙ ne_eqb _ 1 (λ one. let zero = none k (omega arith) (omega arith) in absurd (omega arith))) in
      so_far.docs test marked is ∙ sym (filter-skip test (base + low) (base + high) (omega arith) nothing);
}

pub taken-more : (base low one word : ℕ) (old now new : List ℕ) → low ≤ one → one < 64 → ((k : ℕ) → low ≤ k → k < one → bit_at word k ≡ 0) → bit_at word one ≡ 1 → new ≡ now ++ (base + one) ∷ [] → IsTaken base low word old now → IsTaken base (one + 1) word old new
taken-more base low one word old now new le within none is_one adds so_far =
    let skipped = taken-skip base low one word old now le (omega arith) none so_far in
    record {
      docs = λ test marked is.
          let next : base + one + 1 ≡ base + (one + 1) = omega arith in
          adds ∙ ap (λ (l : List ℕ). l ++ (base + one) ∷ []) (skipped.docs test marked is) ∙ sym (filter-yes test (base + one) (base + (one + 1)) next (sym (marked one within) ∙ eq-eqb _ 1 is_one));
    }

pub taken-all : (base low word : ℕ) (old now : List ℕ) → IsRest word low 0 → IsTaken base low word old now → IsTaken base 64 word old now
taken-all base low word old now rest so_far = taken-skip base low 64 word old now rest.within (omega arith) (λ k from lt. sym (rest.same k from lt) ∙ bit_at-zero k) so_far

-- ---- the marked documents of a window, one word after another
pub record IsAppended (first at : ℕ) (marks old now : List ℕ) : Type 0 where
  pub docs : (test : ℕ → Bool) → AreMarkedBy test first marks → old ≡ passing test first → now ≡ passing test (first + at)

pub appended-none : (first : ℕ) (marks old : List ℕ) → IsAppended first 0 marks old old
appended-none first marks old = record { docs = λ test marked is. let start : first ≡ first + 0 = omega arith in is ∙ ap (passing test) start }

pub appended-more : (first i : ℕ) (marks old now new : List ℕ) → i < length marks → IsTaken (first + 64 * i) 64 (get_or marks i 0) now new → IsAppended first (64 * i) marks old now → IsAppended first (64 * (i + 1)) marks old new
appended-more first i marks old now new within taken so_far = record {
  docs = λ test marked is.
      let next : first + 64 * i + 64 ≡ first + 64 * (i + 1) = omega arith in
      let word : IsMarkedWord test (first + 64 * i) (get_or marks i 0) = λ k lt.
      let at : first + (64 * i + k) ≡ first + 64 * i + k = omega arith in
      sym (marked-at marks i k lt) ∙ marked (64 * i + k) (omega arith) ∙ ap test at in
      taken.docs test word (so_far.docs test marked is) ∙ ap (passing test) next;
}

-- behind the places that were reached nothing is marked
pub appended-all : (first at : ℕ) (marks old now : List ℕ) → at ≤ 64 * length marks → ((k : ℕ) → at ≤ k → k < 64 * length marks → is_marked marks k ≡ false) → IsAppended first at marks old now
    → (test : ℕ → Bool) → AreMarkedBy test first marks → old ≡ passing test first → now ≡ passing test (first + 64 * length marks)
appended-all first at marks old now within behind so_far test marked is =
    let none : (e : ℕ) → first + at ≤ e → e < first + 64 * length marks → test e ≡ false = λ e from lt.
    let k : ℕ = e - first in
    let here : first + k ≡ e = omega arith in
    subst (λ (d : ℕ). test d ≡ false) here (sym (marked k (omega arith)) ∙ behind k (omega arith) (omega arith)) in
    so_far.docs test marked is ∙ sym (filter-skip test (first + at) (first + 64 * length marks) (omega arith) none)

-- every place is marked in words of ones
pub all-marked : (marks : List ℕ) → ((j : ℕ) → j < length marks → get_or marks j 0 ≡ 2 ^ 64 - 1) → AllAreMarked marks
all-marked marks ones k lt = eq-eqb _ 1 (ap (λ (w : ℕ). bit_at w (k % 64)) (ones (k / 64) (omega arith)) ∙ bit_at_ones 64 (k % 64) (omega arith))
