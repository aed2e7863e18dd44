-- Lemmas on places, by their marks and ends.
use Rattle.std.proofs.Common.{◌≡◌, ℕ, zero, suc, ◌+◌, ◌-◌, ◌^◌, ◌<◌, ◌≤◌, List, [], ◌∷◌, ◌++◌, map, length, take, drop, get_or, replicate, sum, refl, sym, ap, ◌∙◌, arith, length-append, append_assoc, append-nil}
use Rattle.std.specs.List.{range_with_len}
use Rattle.std.specs.Prelude.{slice_index}
use Rattle.std.proofs.lemmas.List.{take-append-le, take-append-drop, take_all, get_or_append_left, replicate-append-replicate}
use Rattle.std.proofs.lemmas.List.Sums.{sum_by-append}
use Rattle.std.proofs.lemmas.List.FromFn.{map-range_with_len_more, length-map-range_with_len, get_or-map-range_with_len}
use Rattle.std.proofs.lemmas.List.Elements.{All-nil, All-cons, All-append}
use Rattle.std.proofs.Math.Seq.{get_or-append_seam, take-append_seam}
use Rattle.std.specs.Int.{bit_at}
use Rattle.std.proofs.lemmas.Nat.Bits.{bit_at-zero}
use Rattle.bit_words.specs.Bits.{AreBits, field_bits}
use Rattle.directory_places.specs.Places.{place_of, places_of, AreMarked}

pub sum-append : (xs ys : List ℕ) → sum (xs ++ ys) ≡ sum xs + sum ys
sum-append xs ys = sum_by-append (λ x. x) xs ys

pub sum-take : (k : ℕ) (xs : List ℕ) → sum (take k xs) ≤ sum xs
sum-take k xs = omega (arith, ap sum (take-append-drop k xs), sum-append (take k xs) (drop k xs))

-- what is the same at each number of a range
map-same : (f g : ℕ → ℕ) (a n : ℕ) → ((k : ℕ) → a ≤ k → k < a + n → f k ≡ g k) → map f (range_with_len a n) ≡ map g (range_with_len a n)
map-same f g a zero same = refl
map-same f g a (suc n) same =
    let rest = map-same f g (a + 1) n (λ k le lt. same k (omega (arith, le)) (omega (arith, lt))) in
    let first = same a (omega arith) (omega arith) in
    (λ t. first t ∷ rest t)

-- a place stays as it is where a list is added
place-stays : (marks ends more others : List ℕ) → length ends ≡ sum marks + 1 → (k : ℕ) → 0 ≤ k → k < 0 + (length marks + 1) → place_of (marks ++ more) (ends ++ others) k ≡ place_of marks ends k
place-stays marks ends more others one_each k le lt =
    let same : take k (marks ++ more) ≡ take k marks = take-append-le k marks more (omega (arith, lt)) in
    ap (λ l. get_or (ends ++ others) (sum l) 0 + k) same
    ∙ ap (λ e. e + k) (get_or_append_left ends others 0 (sum (take k marks)) (omega (arith, sum-take k marks, one_each)))

pub places-more : (marks ends others : List ℕ) (b : ℕ) → length ends ≡ sum marks + 1
    → places_of (marks ++ b ∷ []) (ends ++ others) ≡ places_of marks ends ++ (slice_index (ends ++ others) (sum marks + b) + (length marks + 1)) ∷ []
places-more marks ends others b one_each =
    let m : List ℕ = marks ++ b ∷ [] in
    let e : List ℕ = ends ++ others in
    let n : ℕ = length marks + 1 in
    let count : length (marks ++ b ∷ []) + 1 ≡ length marks + 1 + 1 = omega (arith, length-append marks (b ∷ [])) in
    let all : take (length marks + 1) (marks ++ b ∷ []) ≡ marks ++ b ∷ [] = take_all n m (omega (arith, length-append marks (b ∷ []))) in
    let ones : sum (marks ++ b ∷ []) ≡ sum marks + b = omega (arith, sum-append marks (b ∷ [])) in
    ap (λ k. map (place_of m e) (range_with_len 0 k)) count
    ∙ map-range_with_len_more (place_of m e) 0 n n (omega arith)
    ∙ ap (λ l. l ++ place_of m e n ∷ []) (map-same (place_of m e) (place_of marks ends) 0 n (place-stays marks ends (b ∷ []) others one_each))
    ∙ ap (λ l. places_of marks ends ++ (slice_index e (sum l) + n) ∷ []) all
    ∙ ap (λ k. places_of marks ends ++ (slice_index e k + n) ∷ []) ones

pub length-places : (marks ends : List ℕ) → length (places_of marks ends) ≡ length marks + 1
length-places marks ends = length-map-range_with_len (place_of marks ends) 0 (length marks + 1)

-- one list more, with an end
pub places-end : (marks ends : List ℕ) (e : ℕ) → length ends ≡ sum marks + 1
    → places_of (marks ++ 1 ∷ []) (ends ++ e ∷ []) ≡ places_of marks ends ++ (e + length (places_of marks ends)) ∷ []
places-end marks ends e one_each =
    let last : slice_index (ends ++ e ∷ []) (sum marks + 1) ≡ e = ap (slice_index (ends ++ e ∷ [])) (sym one_each) ∙ get_or-append_seam ends e [] 0 in
    places-more marks ends (e ∷ []) 1 one_each
    ∙ ap (λ x. places_of marks ends ++ (x + (length marks + 1)) ∷ []) last
    ∙ ap (λ x. places_of marks ends ++ (e + x) ∷ []) (sym (length-places marks ends))

pub marked-end : (marks ends : List ℕ) (e : ℕ) → AreMarked marks ends → e < 2 ^ 62 → length marks + 1 < 2 ^ 62 → AreMarked (marks ++ 1 ∷ []) (ends ++ e ∷ [])
marked-end marks ends e h small few = record {
  bits = All-append (λ b. b < 2) marks (1 ∷ []) h.bits (All-cons (λ b. b < 2) 1 [] (omega arith) (All-nil (λ b. b < 2)));
  one_each = omega (arith, length-append ends (e ∷ []), sum-append marks (1 ∷ []), h.one_each);
  small = All-append (λ x. x < 2 ^ 62) ends (e ∷ []) h.small (All-cons (λ x. x < 2 ^ 62) e [] small (All-nil (λ x. x < 2 ^ 62)));
  few = omega (arith, length-append marks (1 ∷ []), few);
}

-- the last place
pub last-place : (marks ends : List ℕ) → slice_index (places_of marks ends) (length (places_of marks ends) - 1) ≡ slice_index ends (sum marks) + length marks
last-place marks ends =
    let n : ℕ = length marks in
    let at : length (places_of marks ends) - 1 ≡ length marks = omega (arith, length-places marks ends) in
    ap (slice_index (places_of marks ends)) at
    ∙ get_or-map-range_with_len (place_of marks ends) 0 (n + 1) n n 0 (omega arith) (omega arith)
    ∙ ap (λ l. slice_index ends (sum l) + n) (take_all n marks (omega arith))

sum-zeros : (k : ℕ) → sum (replicate k 0) ≡ 0
sum-zeros zero = refl
sum-zeros (suc k) = sum-zeros k

length-zeros : (k : ℕ) → length (replicate {A = ℕ} k 0) ≡ k
length-zeros zero = refl
length-zeros (suc k) = omega (arith, length-zeros k)

zeros-last : (k : ℕ) → replicate {A = ℕ} (suc k) 0 ≡ replicate k 0 ++ 0 ∷ []
zeros-last zero = refl
zeros-last (suc k) = ap (λ l. 0 ∷ l) (zeros-last k)

bits-zeros : (k : ℕ) → AreBits (replicate k 0)
bits-zeros zero = All-nil (λ b. b < 2)
bits-zeros (suc k) = All-cons (λ b. b < 2) 0 (replicate k 0) (omega arith) (bits-zeros k)

range-last : (a n j : ℕ) → a + n ≡ j → range_with_len a (suc n) ≡ range_with_len a n ++ j ∷ []
range-last a zero j e = let same : a ≡ j = omega (arith, e) in ap (λ k. k ∷ []) same
range-last a (suc n) j e = ap (λ l. a ∷ l) (range-last (a + 1) n j (omega (arith, e)))

-- some lists more, without ends
places-run-from : (marks ends : List ℕ) (k : ℕ) → length ends ≡ sum marks + 1
    → places_of (marks ++ replicate k 0) ends ≡ places_of marks ends ++ range_with_len (slice_index ends (sum marks) + (length marks + 1)) k
places-run-from marks ends zero one_each = ap (λ m. places_of m ends) (append-nil marks) ∙ sym (append-nil (places_of marks ends))
places-run-from marks ends (suc k) one_each =
    let m : List ℕ = marks ++ replicate k 0 in
    let p : List ℕ = places_of marks ends in
    let from : ℕ = slice_index ends (sum marks) + (length marks + 1) in
    let ones : sum (marks ++ replicate k 0) ≡ sum marks = omega (arith, sum-append marks (replicate k 0), sum-zeros k) in
    let count : length (marks ++ replicate k 0) ≡ length marks + k = omega (arith, length-append marks (replicate k 0), length-zeros k) in
    let value : slice_index (ends ++ []) (sum (marks ++ replicate k 0) + 0) + (length (marks ++ replicate k 0) + 1) ≡ slice_index ends (sum marks) + (length marks + 1) + k =
    ap (λ l. slice_index l (sum m + 0) + (length m + 1)) (append-nil ends) ∙ ap (λ x. slice_index ends x + (length m + 1)) (let z : sum (marks ++ replicate k 0) + 0 ≡ sum marks = omega (arith, ones) in z) ∙ omega (arith, count) in
    ap (λ l. places_of (marks ++ l) ends) (zeros-last k)
    ∙ ap (λ l. places_of l ends) (sym (append_assoc marks (replicate k 0) (0 ∷ [])))
    ∙ ap (places_of (m ++ 0 ∷ [])) (sym (append-nil ends))
    ∙ places-more m ends [] 0 (omega (arith, one_each, ones))
    ∙ ap (λ l. l ++ (slice_index (ends ++ []) (sum m + 0) + (length m + 1)) ∷ []) (places-run-from marks ends k one_each)
    ∙ ap (λ x. (p ++ range_with_len from k) ++ x ∷ []) value
    ∙ append_assoc p (range_with_len from k) ((from + k) ∷ [])
    ∙ ap (λ l. p ++ l) (sym (range-last from k (from + k) refl))

pub places-run : (marks ends : List ℕ) (k : ℕ) → length ends ≡ sum marks + 1
    → places_of (marks ++ replicate k 0) ends ≡ places_of marks ends ++ range_with_len (slice_index (places_of marks ends) (length (places_of marks ends) - 1) + 1) k
places-run marks ends k one_each =
    let from : slice_index ends (sum marks) + (length marks + 1) ≡ slice_index (places_of marks ends) (length (places_of marks ends) - 1) + 1 = omega (arith, last-place marks ends) in
    places-run-from marks ends k one_each ∙ ap (λ x. places_of marks ends ++ range_with_len x k) from

pub marked-run : (marks ends : List ℕ) (k : ℕ) → AreMarked marks ends → length marks + k < 2 ^ 62 → AreMarked (marks ++ replicate k 0) ends
marked-run marks ends k h few = record {
  bits = All-append (λ b. b < 2) marks (replicate k 0) h.bits (bits-zeros k);
  one_each = omega (arith, sum-append marks (replicate k 0), sum-zeros k, h.one_each);
  small = h.small;
  few = omega (arith, length-append marks (replicate k 0), length-zeros k, few);
}

-- a field of zeros
zeros-from : (a n : ℕ) → map (λ i. bit_at 0 i) (range_with_len a n) ≡ replicate n 0
zeros-from a zero = refl
zeros-from a (suc n) = let first = bit_at-zero a in let rest = zeros-from (a + 1) n in (λ t. first t ∷ rest t)

pub zeros-field : (n : ℕ) → field_bits n 0 ≡ replicate n 0
zeros-field n = zeros-from 0 n

pub zeros-behind : (old : List ℕ) (n m k : ℕ) → n + m ≡ k → (old ++ replicate n 0) ++ field_bits m 0 ≡ old ++ replicate k 0
zeros-behind old n m k e =
    append_assoc old (replicate n 0) (field_bits m 0) ∙ ap (λ l. old ++ (replicate n 0 ++ l)) (zeros-field m)
    ∙ ap (λ l. old ++ l) (replicate-append-replicate n m 0 ∙ ap (λ j. replicate {A = ℕ} j 0) e)

-- zeros cut off again
pub zeros-cut : (old new : List ℕ) (len n : ℕ) → len ≡ length old → new ≡ old ++ replicate n 0 → take len new ≡ old
zeros-cut old new len n e is = ap (take len) is ∙ ap (λ k. take k (old ++ replicate n 0)) e ∙ take-append_seam old (replicate n 0)
