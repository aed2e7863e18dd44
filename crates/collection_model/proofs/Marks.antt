-- Numbers that a list has, and marks that are kept where it has them.
use Rattle.std.proofs.Common.{◌≡◌, refl, sym, ap, inl, inr, ◌∙◌, ℕ, ◌+◌, ◌*◌, ◌/◌, ◌%◌, ◌<◌, ◌≤◌, ◌≢◌, zero, suc, Bool, true, false, ◌&&◌, ◌||◌, eqb, min, List, [], ◌∷◌, length, get_or, set, bit_and, arith}
use Rattle.std.specs.Int.{bit_at}
use Rattle.std.proofs.lemmas.Bool.{cases_lt, cases_eq, cases_Bool, eq-eqb, eqb-true, ne_eqb, false≢true}
use Rattle.std.proofs.lemmas.List.{length-set, get_or-set_same, get_or-set_other}
use Rattle.std.proofs.lemmas.Nat.Bits.{bit_at-lt, bit_at_and}
use Rattle.collection_model.specs.Collection.{postings_of}
use Rattle.collection_model.specs.Marks.{has_number, has_doc, is_marked, AreKept}

-- a number that stands at a place is there
pub has-at : (x : ℕ) (numbers : List ℕ) (k : ℕ) → k < length numbers → get_or numbers k 0 ≡ x → has_number x numbers ≡ true
has-at x [] k lt is = absurd (omega arith)
has-at x (y ∷ ys) zero lt is = ap (λ (b : Bool). b || has_number x ys) (eq-eqb y x is)
has-at x (y ∷ ys) (suc k) lt is = elim (cases_Bool (eqb y x)) as (λ _. has_number x (y ∷ ys) ≡ true) [
  | inl here ↦ ap (λ (b : Bool). b || has_number x ys) here
  | inr not ↦ ap (λ (b : Bool). b || has_number x ys) not ∙ has-at x ys k (omega arith) is
]

-- one that is there stands at a place
pub place-of : (x : ℕ) (numbers : List ℕ) → has_number x numbers ≡ true → (k : ℕ) × (k < length numbers) × (get_or numbers k 0 ≡ x)
place-of x [] has = absurd (false≢true has)
place-of x (y ∷ ys) has = elim (cases_Bool (eqb y x)) as (λ _. (k : ℕ) × (k < length (y ∷ ys)) × (get_or (y ∷ ys) k 0 ≡ x)) [
  | inl here ↦ (0, omega arith, eqb-true y x here)
  | inr not ↦ (let later = place-of x ys (sym (ap (λ (b : Bool). b || has_number x ys) not) ∙ has) in (suc later.0, omega (arith, later.1), later.2))
]

-- one that stands at no place is not there
pub has-none : (x : ℕ) (numbers : List ℕ) → ((k : ℕ) → k < length numbers → get_or numbers k 0 ≢ x) → has_number x numbers ≡ false
has-none x numbers none = elim (cases_Bool (has_number x numbers)) as (λ _. has_number x numbers ≡ false) [
  | inl has ↦ (let at = place-of x numbers has in absurd (none at.0 at.1 at.2))
  | inr not ↦ not
]

-- tests that hold together are the same
pub same-test : (a b : Bool) → (a ≡ true → b ≡ true) → (b ≡ true → a ≡ true) → a ≡ b
same-test true b to from = sym (to refl)
same-test false b to from = elim (cases_Bool b) as (λ _. false ≡ b) [
  | inl both ↦ absurd (false≢true (from both))
  | inr not ↦ sym not
]

-- a list has the documents of its sequence
pub has-doc : (d : ℕ) (docs freqs : List ℕ) → length docs ≡ length freqs → has_doc d (postings_of docs freqs) ≡ has_number d docs
has-doc d [] freqs same = refl
has-doc d (x ∷ docs) [] same = absurd (omega arith)
has-doc d (x ∷ docs) (f ∷ freqs) same = ap (λ (b : Bool). eqb x d || b) (has-doc d docs freqs (omega arith))

-- no word is told
pub kept-none : (numbers : List ℕ) (first : ℕ) (marks : List ℕ) → AreKept numbers first marks marks 0
kept-none numbers first marks = record { within = omega arith; count = refl; kept = λ k lt. absurd (omega arith); rest = λ k from within. refl }

-- a bit of two words that is 1 in both
both-one : (a b : ℕ) → a < 2 → b < 2 → eqb (min a b) 1 ≡ (eqb a 1 && eqb b 1)
both-one a b x y = elim (cases_eq a 1) as (λ _. eqb (min a b) 1 ≡ (eqb a 1 && eqb b 1)) [
  | inl one ↦ (let least : min a b ≡ b = omega arith in ap (λ (n : ℕ). eqb n 1) least ∙ sym (ap (λ (t : Bool). t && eqb b 1) (eq-eqb a 1 one)))
  | inr not ↦ ne_eqb (min a b) 1 (λ e. absurd (omega arith)) ∙ sym (ap (λ (t : Bool). t && eqb b 1) (ne_eqb a 1 not))
]

-- one more word is told
pub kept-more : (numbers : List ℕ) (first : ℕ) (old now new : List ℕ) (i word kept : ℕ) → i < length old → AreKept numbers first old now i → kept ≡ bit_and (get_or now i 0) word → new ≡ set now i kept
    → ((k : ℕ) → k < 64 → eqb (bit_at word k) 1 ≡ has_number (first + (64 * i + k)) numbers) → AreKept numbers first old new (i + 1)
kept-more numbers first old now new i word kept inside so_far is sets tells =
    let other : (k : ℕ) → k / 64 ≢ i → is_marked new k ≡ is_marked now k = λ k apart.
    ap (λ (ws : List ℕ). eqb (bit_at (get_or ws (k / 64) 0) (k % 64)) 1) sets ∙ ap (λ (w : ℕ). eqb (bit_at w (k % 64)) 1) (get_or-set_other now i (k / 64) kept 0 apart) in
    let here : (k : ℕ) → k / 64 ≡ i → is_marked new k ≡ (is_marked now k && has_number (first + k) numbers) = λ k at.
    let place : 64 * i + k % 64 ≡ k = omega arith in
    let room = so_far.count in
    ap (λ (ws : List ℕ). eqb (bit_at (get_or ws (k / 64) 0) (k % 64)) 1) sets
    ∙ ap (λ (j : ℕ). eqb (bit_at (get_or (set now i kept) j 0) (k % 64)) 1) at
    ∙ ap (λ (w : ℕ). eqb (bit_at w (k % 64)) 1) (get_or-set_same now i kept 0 (omega arith) ∙ is)
    ∙ ap (λ (b : ℕ). eqb b 1) (bit_at_and (get_or now i 0) word (k % 64))
    ∙ both-one (bit_at (get_or now i 0) (k % 64)) (bit_at word (k % 64)) (bit_at-lt (get_or now i 0) (k % 64)) (bit_at-lt word (k % 64))
    ∙ ap (λ (j : ℕ). eqb (bit_at (get_or now j 0) (k % 64)) 1 && eqb (bit_at word (k % 64)) 1) (sym at)
    ∙ ap (λ (b : Bool). is_marked now k && b) (tells (k % 64) (omega arith) ∙ ap (λ (n : ℕ). has_number (first + n) numbers) place) in
    record {
      within = omega arith;
      count = ap length sets ∙ length-set now i kept ∙ so_far.count;
      kept = λ k lt. elim (cases_lt k (64 * i)) as (λ _. is_marked new k ≡ (is_marked old k && has_number (first + k) numbers)) [
        | inl early ↦ other k (omega arith) ∙ so_far.kept k early
        | inr late ↦ here k (omega arith) ∙ ap (λ (b : Bool). b && has_number (first + k) numbers) (so_far.rest k late (omega arith))
      ];
      rest = λ k from within. other k (omega arith) ∙ so_far.rest k (omega arith) within;
    }

-- where the numbers of the words are all there nothing is taken back
pub kept-all : (numbers : List ℕ) (first : ℕ) (marks : List ℕ) (words : ℕ) → words ≤ length marks → ((k : ℕ) → k < 64 * words → has_number (first + k) numbers ≡ true) → AreKept numbers first marks marks words
kept-all numbers first marks words within all = record {
  within = within;
  count = refl;
  kept = λ k lt. sym (ap (λ (b : Bool). is_marked marks k && b) (all k lt) ∙ and-true (is_marked marks k));
  rest = λ k from inside. refl;
}
  where
    and-true : (b : Bool) → (b && true) ≡ b
    and-true true = refl
    and-true false = refl

-- the same numbers, counted from another first one
pub kept-from : (xs ys : List ℕ) (first from : ℕ) (old new : List ℕ) (words : ℕ) → AreKept ys from old new words → ((k : ℕ) → k < 64 * words → has_number (from + k) ys ≡ has_number (first + k) xs) → AreKept xs first old new words
kept-from xs ys first from old new words h same = record {
  within = h.within;
  count = h.count;
  kept = λ k lt. h.kept k lt ∙ ap (λ (b : Bool). is_marked old k && b) (same k lt);
  rest = h.rest;
}
