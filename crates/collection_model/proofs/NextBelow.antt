-- The next numbers below one, given one after another.
use Rattle.std.proofs.Common.{◌≡◌, ℕ, ◌+◌, ◌-◌, ◌<◌, ◌≤◌, List, length, min, set, get_or, sym, ap, ◌∙◌, arith, inl, inr, Bool, true, false, cond, zero, suc, [], ◌∷◌, take, drop}
use Rattle.std.specs.Prelude.{slice_index, nat_lt}
use Rattle.std.specs.List.{prefix_len}
use Rattle.std.proofs.lemmas.List.{get_or-set_other, get_or-take, get_or-drop, length-take, length-drop, ext_get_or, take-take, take_all}
use Rattle.std.proofs.lemmas.Bool.{cases_lt, lt-ltb, le-ltb}
use Rattle.std.proofs.lemmas.Grind.{get_or-set_at}
use Rattle.collection_model.specs.NextBelow.{AreNextBelow}
use Rattle.collection_model.specs.Laws.{NextStopAtFirst, OneCount}

-- So many of the next numbers from a place on are given, each below x; more may follow.
pub record AreGiven (numbers : List ℕ) (from x : ℕ) (given : List ℕ) (count : ℕ) : Type 0 where
  pub same : (j : ℕ) → j < count → slice_index given j ≡ slice_index numbers (from + j)
  pub below : (j : ℕ) → j < count → slice_index numbers (from + j) < x

-- none are given at first
pub given-none : (numbers : List ℕ) (from x : ℕ) (given : List ℕ) → AreGiven numbers from x given 0
given-none numbers from x given = record { same = λ j lt. absurd (omega arith); below = λ j lt. absurd (omega arith) }

-- one more is given behind them
at-set : (given : List ℕ) (count n j a : ℕ) → count < length given → j < count + 1 → (j < count → slice_index given j ≡ a) → (j ≡ count → n ≡ a)
    → slice_index (set given count n) j ≡ a
at-set given count n j a room lt before here = elim (cases_lt j count) [
  | inl early ↦ get_or-set_other given count j n 0 (omega arith) ∙ before early
  | inr late ↦ get_or-set_at given count j n 0 (omega arith) room ∙ here (omega arith)
]

pub given-more : (numbers : List ℕ) (from x : ℕ) (given : List ℕ) (count n : ℕ) → AreGiven numbers from x given count → count < length given
    → n ≡ slice_index numbers (from + count) → n < x → AreGiven numbers from x (set given count n) (count + 1)
given-more numbers from x given count n h room is low = record {
  same = λ j lt. at-set given count n j (slice_index numbers (from + j)) room lt (h.same j) (λ e. is ∙ ap (λ i. slice_index numbers (from + i)) (sym e));
  below = λ j lt. elim (cases_lt j count) [
    | inl early ↦ h.below j early
    | inr late ↦ let e : slice_index numbers (from + j) ≡ slice_index numbers (from + count) = ap (λ i. slice_index numbers (from + i)) (omega arith) in omega (arith, is, e)
  ];
}

-- they are the next below x, where no more have room, no more are there, or the next one is x or more
pub given-all : (numbers : List ℕ) (from x : ℕ) (given : List ℕ) (count : ℕ) → AreGiven numbers from x given count → count ≤ length given
    → from + count ≤ length numbers → (count < length given → from + count < length numbers → x ≤ slice_index numbers (from + count))
    → AreNextBelow numbers from x given count
given-all numbers from x given count h room within full = record { room = room; within = within; same = h.same; below = h.below; full = full }

-- so many numbers pass a test from the front on, at least and at most
passing : (p : ℕ → Bool) (zs : List ℕ) (n : ℕ) → n ≤ length zs → ((j : ℕ) → j < n → p (get_or zs j 0) ≡ true) → n ≤ prefix_len p zs
passing p zs zero le all = omega arith
passing p [] (suc n) le all = absurd (omega arith)
passing p (z ∷ zs) (suc n) le all =
    let later = passing p zs n (omega arith) (λ j lt. all (suc j) (omega arith)) in
    let here : prefix_len p (z ∷ zs) ≡ 1 + prefix_len p zs = ap (λ b. cond b (1 + prefix_len p zs) 0) (all 0 (omega arith)) in
    omega (arith, later, here)

head-first : (b : Bool) (k n : ℕ) → k ≤ n → cond b (1 + k) 0 ≤ suc n
head-first true k n le = omega arith
head-first false k n le = omega arith

stopping : (p : ℕ → Bool) (zs : List ℕ) (n : ℕ) → (n < length zs → p (get_or zs n 0) ≡ false) → prefix_len p zs ≤ n
stopping p [] n stop = omega arith
stopping p (z ∷ zs) zero stop =
    let here : prefix_len p (z ∷ zs) ≡ 0 = ap (λ b. cond b (1 + prefix_len p zs) 0) (stop (omega arith)) in
    omega (arith, here)
stopping p (z ∷ zs) (suc n) stop = head-first (p z) (prefix_len p zs) n (stopping p zs n (λ lt. stop (omega arith)))

-- the count is one: no more have room, or are there, or are below x
pub one-count : OneCount
one-count numbers from x given c d h k = elim (cases_lt c d) [
  | inl less ↦ absurd (omega (arith, h.full (omega (arith, k.room)) (omega (arith, k.within)), k.below c less))
  | inr rest ↦ elim (cases_lt d c) [
    | inl more ↦ absurd (omega (arith, k.full (omega (arith, h.room)) (omega (arith, h.within)), h.below d more))
    | inr same ↦ omega arith
  ]
]

-- so many pass from the place on, or have room
count-is : (numbers : List ℕ) (from x : ℕ) (given : List ℕ) (count : ℕ) → AreNextBelow numbers from x given count
    → count ≡ min (length given) (prefix_len (λ n. nat_lt n x) (drop from numbers))
count-is numbers from x given count h =
    let zs : List ℕ = drop from numbers in
    let p : ℕ → Bool = λ n. nat_lt n x in
    let long : length zs ≡ length numbers - from = length-drop from numbers in
    let least = passing p zs count (omega (arith, long, h.within)) (λ j lt. lt-ltb _ _ (omega (arith, get_or-drop from numbers j 0, h.below j lt))) in
    elim (cases_lt count (length given)) [
      | inl room ↦
          let most = stopping p zs count (λ lt. le-ltb _ _ (omega (arith, get_or-drop from numbers count 0, h.full room (omega (arith, long))))) in
          omega (arith, least, most)
      | inr none ↦ omega (arith, least, h.room)
    ]

-- some of the first of them are the first of them, as many as both
take-least : (m n : ℕ) (zs : List ℕ) → take m (take n zs) ≡ take (min m n) zs
take-least m n zs = elim (cases_lt m n) [
  | inl less ↦ take-take m n zs (omega arith) ∙ ap (λ k. take k zs) (omega arith)
  | inr rest ↦ take_all m (take n zs) (omega (arith, length-take n zs)) ∙ ap (λ k. take k zs) (omega arith)
]

pub next-stop-at-first : NextStopAtFirst
next-stop-at-first numbers from x given count h =
    let zs : List ℕ = drop from numbers in
    let far : ℕ = prefix_len (λ n. nat_lt n x) zs in
    let long : length zs ≡ length numbers - from = length-drop from numbers in
    let same : take count given ≡ take count zs =
    ext_get_or 0 (take count given) (take count zs) (omega (arith, length-take count given, length-take count zs, long, h.room, h.within))
    (λ i lt.
    let low : i < count = omega (arith, length-take count given) in
    get_or-take count given i 0 low ∙ h.same i low ∙ sym (get_or-take count zs i 0 low ∙ get_or-drop from numbers i 0)) in
    same ∙ ap (λ n. take n zs) (count-is numbers from x given count h) ∙ sym (take-least (length given) far zs)
