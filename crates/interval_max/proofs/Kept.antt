-- Lemmas on the maxima of many lists in one slice of bytes.
use Rattle.std.proofs.Common.{◌≡◌, refl, sym, ap, ◌∙◌, subst, inl, inr, ℕ, zero, suc, ◌+◌, ◌-◌, ◌*◌, ◌/◌, ◌%◌, ◌^◌, ◌<◌, ◌≤◌, ◌≢◌, min, Bool, true, false, cond, eqb, List, [], ◌∷◌, ◌++◌, append-nil, take, drop, length, length-append, get_or, arith}
use Rattle.std.specs.Prelude.{filter}
use Rattle.std.specs.Int.{from_le_bytes, w64}
use Rattle.std.specs.List.{All, range_with_len}
use Rattle.std.proofs.Math.Seq.{drop-append_seam}
use Rattle.std.proofs.lemmas.Bool.{cases_Bool, cases_lt}
use Rattle.std.proofs.lemmas.List.{get_or-append_right, drop-append-le, take-append-le, take_all, length-drop, map-id, get_or_push, get_or_append_left}
use Rattle.std.proofs.lemmas.List.Elements.{All-nil, All-push}
use Rattle.std.proofs.lemmas.List.FromFn.{filter_of_map_range_with_len_more}
use Rattle.std.proofs.lemmas.Nat.{from_le_bytes-to_le_bytes_8}
use Rattle.collection_model.specs.Bytes.{le64, word_bytes}
use Rattle.collection_model.specs.Collection.{Posting}
use Rattle.interval_max.specs.Bytes.{byte_in, rounded_up, step_of}
use Rattle.interval_max.specs.Kept.{AreMaximaIn, AreMaximaOf, AreRising, Entry, IsEntryOf, count_of, directory_of, entry_byte, entry_in, entry_of, entry_words, head_word, terms_with, word_from, word_of}

-- ---- words among bytes

eight : (n : ℕ) → length (le64 n) ≡ 8
eight n = refl

-- bytes that follow do not matter
pub word-front : (xs ys : List ℕ) (at : ℕ) → at + 8 ≤ length xs → word_from (xs ++ ys) at ≡ word_from xs at
word-front xs ys at within =
    let room : 8 ≤ length (drop at xs) = omega (arith, length-drop at xs, within) in
    ap (λ (bs : List ℕ). from_le_bytes w64 (take 8 bs)) (drop-append-le at xs ys (omega (arith, within)))
    ∙ ap (from_le_bytes w64) (take-append-le 8 (drop at xs) ys room)

-- a word behind some bytes is read back
pub word-behind : (xs : List ℕ) (n : ℕ) → n < 2 ^ 64 → word_from (xs ++ le64 n) (length xs) ≡ n
word-behind xs n fits =
    ap (λ (bs : List ℕ). from_le_bytes w64 (take 8 bs)) (drop-append_seam xs (le64 n))
    ∙ ap (from_le_bytes w64) (take_all 8 (le64 n) (omega (arith, eight n)))
    ∙ from_le_bytes-to_le_bytes_8 n fits

pub words-length : (words : List ℕ) → length (word_bytes words) ≡ 8 * length words
words-length [] = refl
words-length (w ∷ words) = omega (arith, length-append (le64 w) (word_bytes words), eight w, words-length words)

pub append-assoc : (xs ys zs : List ℕ) → (xs ++ ys) ++ zs ≡ xs ++ (ys ++ zs)
append-assoc [] ys zs = refl
append-assoc (x ∷ xs) ys zs = ap (λ (l : List ℕ). x ∷ l) (append-assoc xs ys zs)

-- one word more
pub words-push : (words : List ℕ) (w : ℕ) → word_bytes (words ++ w ∷ []) ≡ word_bytes words ++ le64 w
words-push [] w = refl
words-push (x ∷ words) w = ap (λ (l : List ℕ). le64 x ++ l) (words-push words w) ∙ sym (append-assoc (le64 x) (word_bytes words) (le64 w))

-- so is each of some words
pub word-among : (front words more : List ℕ) (k : ℕ) → k < length words → All (λ w. w < 2 ^ 64) words → word_from (front ++ (word_bytes words ++ more)) (length front + 8 * k) ≡ get_or words k 0
word-among front [] more k within fits = absurd (omega (arith, within))
word-among front (w ∷ words) more zero within fits =
    let at : length front + 8 * zero ≡ length front = omega arith in
    let split : front ++ (word_bytes (w ∷ words) ++ more) ≡ (front ++ le64 w) ++ (word_bytes words ++ more) =
    ap (λ (l : List ℕ). front ++ l) (append-assoc (le64 w) (word_bytes words) more) ∙ sym (append-assoc front (le64 w) (word_bytes words ++ more)) in
    ap (word_from (front ++ (word_bytes (w ∷ words) ++ more))) at
    ∙ ap (λ (l : List ℕ). word_from l (length front)) split
    ∙ word-front (front ++ le64 w) (word_bytes words ++ more) (length front) (omega (arith, length-append front (le64 w), eight w))
    ∙ word-behind front w (fits 0 0 (omega arith))
word-among front (w ∷ words) more (suc k) within fits =
    let at : length front + 8 * suc k ≡ length (front ++ le64 w) + 8 * k = omega (arith, length-append front (le64 w), eight w) in
    let split : front ++ (word_bytes (w ∷ words) ++ more) ≡ (front ++ le64 w) ++ (word_bytes words ++ more) =
    ap (λ (l : List ℕ). front ++ l) (append-assoc (le64 w) (word_bytes words) more) ∙ sym (append-assoc front (le64 w) (word_bytes words ++ more)) in
    ap (word_from (front ++ (word_bytes (w ∷ words) ++ more))) at
    ∙ ap (λ (l : List ℕ). word_from l (length (front ++ le64 w) + 8 * k)) split
    ∙ word-among (front ++ le64 w) words more k (omega (arith, within)) (λ i d lt. fits (suc i) d (omega (arith, lt)))

-- ---- the bytes of a list

-- bytes that follow do not matter
part-front : (xs ys : List ℕ) (from to : ℕ) → to ≤ length xs → take (to - from) (drop from (xs ++ ys)) ≡ take (to - from) (drop from xs)
part-front xs ys from to within = elim (cases_lt to from) as (λ _. take (to - from) (drop from (xs ++ ys)) ≡ take (to - from) (drop from xs)) [
  | inl none ↦
      (let zero_is : to - from ≡ 0 = omega (arith, none) in
      ap (λ (n : ℕ). take n (drop from (xs ++ ys))) zero_is ∙ sym (ap (λ (n : ℕ). take n (drop from xs)) zero_is))
  | inr some ↦
      (let room : to - from ≤ length (drop from xs) = omega (arith, length-drop from xs, some, within) in
      ap (take (to - from)) (drop-append-le from xs ys (omega (arith, some, within))) ∙ take-append-le (to - from) (drop from xs) ys room)
]

-- a slice that is cut to what there is
slice-same : (bytes : List ℕ) (from to f t : ℕ) → t ≡ to → f ≡ min from to → take (t - f) (drop f bytes) ≡ take (to - from) (drop from bytes)
slice-same bytes from to f t t_is f_is = elim (cases_lt to from) as (λ _. take (t - f) (drop f bytes) ≡ take (to - from) (drop from bytes)) [
  | inl none ↦
      (let left : t - f ≡ 0 = omega (arith, none, t_is, f_is) in
      let right : to - from ≡ 0 = omega (arith, none) in
      ap (λ (n : ℕ). take n (drop f bytes)) left ∙ sym (ap (λ (n : ℕ). take n (drop from bytes)) right))
  | inr some ↦
      (let begins : f ≡ from = omega (arith, some, f_is) in
      let long : t - f ≡ to - from = omega (arith, begins, t_is) in
      ap (λ (n : ℕ). take n (drop f bytes)) long ∙ ap (λ (n : ℕ). take (to - from) (drop n bytes)) begins)
]

-- the bytes that the words of an entry tell
pub at-entry : (bytes : List ℕ) (word : ℕ → ℕ) (i head from to f t step : ℕ) (b : Bool) → head ≡ word (4 * i) → from ≡ word (4 * i + 1) → to ≡ word (4 * i + 2) → to ≤ length bytes → t ≡ min to (length bytes) → f ≡ min from t
    → step ≡ min (head % 2 ^ 31) 16843009 → b ≡ eqb (head / 2 ^ 31 % 2) 1 → (v : ℕ) → byte_in b (take (t - f) (drop f bytes)) v * step ≡ entry_byte bytes (entry_in word i) v * (entry_in word i).step
at-entry bytes word i head from to f t step b h a z within t_is f_is step_is b_is v =
    let whole : t ≡ to = omega (arith, within, t_is) in
    let cut : f ≡ min from to = omega (arith, whole, f_is) in
    ap (λ (part : List ℕ). byte_in b part v * step) (slice-same bytes from to f t whole cut)
    ∙ ap (λ (n : ℕ). byte_in b (take (to - from) (drop from bytes)) v * n) step_is
    ∙ ap (λ (f : Bool). byte_in f (take (to - from) (drop from bytes)) v * min (head % 2 ^ 31) 16843009) b_is
    ∙ ap (λ (n : ℕ). entry_byte bytes (entry_of n from to) v * (entry_of n from to).step) h
    ∙ ap (λ (n : ℕ). entry_byte bytes (entry_of (word (4 * i)) n to) v * (entry_of (word (4 * i)) n to).step) a
    ∙ ap (λ (n : ℕ). entry_byte bytes (entry_of (word (4 * i)) (word (4 * i + 1)) n) v * (entry_of (word (4 * i)) (word (4 * i + 1)) n).step) z

entry-front : (xs ys : List ℕ) (e : Entry) (term : ℕ) (list : List Posting) → IsEntryOf xs e term list → IsEntryOf (xs ++ ys) e term list
entry-front xs ys e term list is = record {
  term_is = is.term_is;
  step = is.step;
  within = omega (arith, is.within, length-append xs ys);
  byte = λ v. ap (λ (part : List ℕ). byte_in e.is_each part v * e.step) (part-front xs ys e.from e.to is.within) ∙ is.byte v;
}

-- ---- the terms of lists that have maxima

-- with one list more
pub terms-more : (has : ℕ → Bool) (t : ℕ) → terms_with has (t + 1) ≡ terms_with has t ++ cond (has t) (t ∷ []) []
terms-more has t =
    let at : 0 + t ≡ t = omega arith in
    ap (filter has) (sym (map-id (range_with_len 0 (t + 1)))) ∙ filter_of_map_range_with_len_more has (λ (n : ℕ). n) 0 t t at
    ∙ ap (λ xs. filter has xs ++ cond (has t) (t ∷ []) []) (map-id (range_with_len 0 t))

terms-skipped : (has : ℕ → Bool) (t : ℕ) → has t ≡ false → terms_with has (t + 1) ≡ terms_with has t
terms-skipped has t not = terms-more has t ∙ ap (λ b. terms_with has t ++ cond b (t ∷ []) []) not ∙ append-nil (terms_with has t)

terms-taken : (has : ℕ → Bool) (t : ℕ) → has t ≡ true → terms_with has (t + 1) ≡ terms_with has t ++ t ∷ []
terms-taken has t with_it = terms-more has t ∙ ap (λ b. terms_with has t ++ cond b (t ∷ []) []) with_it

-- each of them has
abbrev Has : (ℕ → Bool) → ℕ → ℕ → Type 0
Has has n t = (has t ≡ true) × (t < n)

all-have : (has : ℕ → Bool) (n : ℕ) → All (Has has n) (terms_with has n)
all-have has zero = All-nil (Has has zero)
all-have has (suc n) =
    let e : n + 1 ≡ suc n = omega arith in
    subst (λ k. All (Has has k) (terms_with has k)) e (by (has n) refl (all-have has n))
  where
    wider : (t : ℕ) → Has has n t → Has has (n + 1) t
    wider t h = (h.0, omega (arith, h.1))

    before : All (Has has n) (terms_with has n) → All (Has has (n + 1)) (terms_with has n)
    before so_far i d within = wider (get_or (terms_with has n) i d) (so_far i d within)

    by : (b : Bool) → has n ≡ b → All (Has has n) (terms_with has n) → All (Has has (n + 1)) (terms_with has (n + 1))
    by true is so_far = subst (All (Has has (n + 1))) (sym (terms-taken has n is)) (All-push (Has has (n + 1)) (terms_with has n) n (before so_far) (is, omega arith))
    by false is so_far = subst (All (Has has (n + 1))) (sym (terms-skipped has n is)) (before so_far)

-- they rise
terms-rise : (has : ℕ → Bool) (n : ℕ) → AreRising (λ i. get_or (terms_with has n) i 0) (length (terms_with has n))
terms-rise has zero = λ i j lt within. absurd (omega (arith, within))
terms-rise has (suc n) =
    let e : n + 1 ≡ suc n = omega arith in
    subst (λ k. AreRising (λ i. get_or (terms_with has k) i 0) (length (terms_with has k))) e (by (has n) refl (terms-rise has n))
  where
    pushed : AreRising (λ i. get_or (terms_with has n) i 0) (length (terms_with has n)) → AreRising (λ i. get_or ((terms_with has n) ++ n ∷ []) i 0) (length ((terms_with has n) ++ n ∷ []))
    pushed so_far i j lt within =
        let long = length-append (terms_with has n) (n ∷ []) in
        let first : i < length (terms_with has n) = omega (arith, lt, within, long) in
        let left : get_or ((terms_with has n) ++ n ∷ []) i 0 ≡ get_or (terms_with has n) i 0 = get_or_append_left (terms_with has n) (n ∷ []) 0 i first in
        elim (cases_lt j (length (terms_with has n))) as (λ _. get_or ((terms_with has n) ++ n ∷ []) i 0 < get_or ((terms_with has n) ++ n ∷ []) j 0) [
          | inl inside ↦ (let right : get_or ((terms_with has n) ++ n ∷ []) j 0 ≡ get_or (terms_with has n) j 0 = get_or_append_left (terms_with has n) (n ∷ []) 0 j inside in let r : get_or (terms_with has n) i 0 < get_or (terms_with has n) j 0 = so_far i j lt inside in omega (arith, left, right, r))
          | inr end ↦ (let at : length (terms_with has n) ≡ j = omega (arith, end, within, long) in let right : get_or ((terms_with has n) ++ n ∷ []) j 0 ≡ n = get_or_push (terms_with has n) n 0 j at in let low : get_or (terms_with has n) i 0 < n = (all-have has n i 0 first).1 in omega (arith, left, right, low))
        ]

    by : (b : Bool) → has n ≡ b → AreRising (λ i. get_or (terms_with has n) i 0) (length (terms_with has n)) → AreRising (λ i. get_or (terms_with has (n + 1)) i 0) (length (terms_with has (n + 1)))
    by true is so_far = subst (λ ts. AreRising (λ i. get_or ts i 0) (length ts)) (sym (terms-taken has n is)) (pushed so_far)
    by false is so_far = subst (λ ts. AreRising (λ i. get_or ts i 0) (length ts)) (sym (terms-skipped has n is)) so_far

-- each that has maxima has a place there
abbrev IsAt : List ℕ → ℕ → Type 0
IsAt xs t = (k : ℕ) × (k < length xs) × (get_or xs k 0 ≡ t)

is-there : (has : ℕ → Bool) (n t : ℕ) → t < n → has t ≡ true → IsAt (terms_with has n) t
is-there has zero t within with_it = absurd (omega (arith, within))
is-there has (suc n) t within with_it =
    let e : n + 1 ≡ suc n = omega arith in
    subst (λ k. IsAt (terms_with has k) t) e (elim (cases_lt t n) as (λ _. IsAt (terms_with has (n + 1)) t) [
      | inl before ↦ subst (λ ts. IsAt ts t) (sym (terms-more has n)) (still (cond (has n) (n ∷ []) []) (is-there has n t before with_it))
      | inr from ↦ (let same : t ≡ n = omega (arith, from, within) in subst (λ ts. IsAt ts t) (sym (terms-taken has n (sym (ap has same) ∙ with_it))) (last same))
    ])
  where
    still : (more : List ℕ) → IsAt (terms_with has n) t → IsAt (terms_with has n ++ more) t
    still more at = (at.0, omega (arith, at.1, length-append (terms_with has n) more), get_or_append_left (terms_with has n) more 0 at.0 at.1 ∙ at.2)

    last : t ≡ n → IsAt (terms_with has n ++ n ∷ []) t
    last same = (length (terms_with has n), omega (arith, length-append (terms_with has n) (n ∷ [])), get_or_push (terms_with has n) n 0 (length (terms_with has n)) refl ∙ sym same)

-- ---- the maxima of the first lists

pub none-yet : (has : ℕ → Bool) (list : ℕ → List Posting) (words bytes : List ℕ) → words ≡ [] → AreMaximaIn has list 0 (length words / 4) (λ k. get_or words k 0) bytes
none-yet has list words bytes none =
    let zero_is : length words / 4 ≡ 0 = omega (arith, ap length none) in
    record { count_is = zero_is; each = λ i within. absurd (omega (arith, within, zero_is)) }

-- with a list more that has none
pub skipped : (has : ℕ → Bool) (list : ℕ → List Posting) (t count : ℕ) (word : ℕ → ℕ) (bytes : List ℕ) → AreMaximaIn has list t count word bytes → has t ≡ false → AreMaximaIn has list (t + 1) count word bytes
skipped has list t count word bytes h not =
    let same = sym (terms-skipped has t not) in
    record {
      count_is = h.count_is ∙ ap length same;
      each = λ i within. subst (λ (ts : List ℕ). IsEntryOf bytes (entry_in word i) (get_or ts i 0) (list (get_or ts i 0))) same (h.each i within);
    }

-- with many more
pub all-skipped : (has : ℕ → Bool) (list : ℕ → List Posting) (t more count : ℕ) (word : ℕ → ℕ) (bytes : List ℕ) → AreMaximaIn has list t count word bytes → ((s : ℕ) → t ≤ s → has s ≡ false) → AreMaximaIn has list (t + more) count word bytes
all-skipped has list t zero count word bytes h none = subst (λ (n : ℕ). AreMaximaIn has list n count word bytes) (let e : t ≡ t + zero = omega arith in e) h
all-skipped has list t (suc more) count word bytes h none =
    subst (λ (n : ℕ). AreMaximaIn has list n count word bytes) (let e : t + more + 1 ≡ t + suc more = omega arith in e)
    (skipped has list (t + more) count word bytes (all-skipped has list t more count word bytes h none) (none (t + more) (omega arith)))

-- the entry of three words is what they tell
head-term : (term step : ℕ) (b : Bool) → step < 2 ^ 31 → head_word term b step / 2 ^ 32 ≡ term
head-term term step true fits = omega (arith, fits)
head-term term step false fits = omega (arith, fits)

head-form : (term step : ℕ) (b : Bool) → step < 2 ^ 31 → head_word term b step / 2 ^ 31 % 2 ≡ cond b 1 0
head-form term step true fits = omega (arith, fits)
head-form term step false fits = omega (arith, fits)

head-step : (term step : ℕ) (b : Bool) → step < 2 ^ 31 → head_word term b step % 2 ^ 31 ≡ step
head-step term step true fits = omega (arith, fits)
head-step term step false fits = omega (arith, fits)

form-of : (b : Bool) (n : ℕ) → n ≡ cond b 1 0 → eqb n 1 ≡ b
form-of true n is = ap (λ (n : ℕ). eqb n 1) is
form-of false n is = ap (λ (n : ℕ). eqb n 1) is

-- the entry that its three words tell
entry-told : (term step from to : ℕ) (b : Bool) → step ≤ 16843009 → entry_of (head_word term b step) from to ≡ record { term = term; is_each = b; step = step; from = from; to = to }
entry-told term step from to b small =
    let head : ℕ = head_word term b step in
    let fits : step < 2 ^ 31 = omega (arith, small) in
    let steps : min (head % 2 ^ 31) 16843009 ≡ step = omega (arith, head-step term step b fits, small) in
    ap (λ (t : ℕ). record { term = t; is_each = eqb (head / 2 ^ 31 % 2) 1; step = min (head % 2 ^ 31) 16843009; from = from; to = to }) (head-term term step b fits)
    ∙ ap (λ (f : Bool). record { term = term; is_each = f; step = min (head % 2 ^ 31) 16843009; from = from; to = to }) (form-of b (head / 2 ^ 31 % 2) (head-form term step b fits))
    ∙ ap (λ (s : ℕ). record { term = term; is_each = b; step = s; from = from; to = to }) steps

-- words at three places tell one entry
entry-same : (old new : ℕ → ℕ) (i : ℕ) → new (4 * i) ≡ old (4 * i) → new (4 * i + 1) ≡ old (4 * i + 1) → new (4 * i + 2) ≡ old (4 * i + 2) → entry_in new i ≡ entry_in old i
entry-same old new i a b c =
    ap (λ (n : ℕ). entry_of n (new (4 * i + 1)) (new (4 * i + 2))) a
    ∙ ap (λ (n : ℕ). entry_of (old (4 * i)) n (new (4 * i + 2))) b
    ∙ ap (λ (n : ℕ). entry_of (old (4 * i)) (old (4 * i + 1)) n) c

module _ (has : ℕ → Bool) (list : ℕ → List Posting) (term step intervals : ℕ) (b : Bool) (front part words : List ℕ)
    (whole : length words ≡ 4 * (length words / 4)) (so_far : AreMaximaIn has list term (length words / 4) (λ k. get_or words k 0) front)
    (with_it : has term ≡ true) (small : step ≤ 16843009) (step_is : step ≡ step_of (list term)) (byte : (v : ℕ) → byte_in b part v * step ≡ rounded_up (list term) v) where
  abbrev pub four : List ℕ
  four = entry_words term b step (length front) (length front + length part) intervals

  abbrev pub count : ℕ
  count = length words / 4

  longer : length (words ++ four) ≡ length words + 4
  longer = length-append words four

  pub still-whole : length (words ++ four) ≡ 4 * (length (words ++ four) / 4)
  still-whole = omega (arith, whole, longer)

  last : IsEntryOf (front ++ part) (entry_in (λ k. get_or (words ++ four) k 0) count) term (list term)
  last =
      let told : entry_in (λ k. get_or (words ++ four) k 0) count ≡ record { term = term; is_each = b; step = step; from = length front; to = length front + length part } =
      entry-same (λ (k : ℕ). get_or four (k - 4 * count) 0) (λ (k : ℕ). get_or (words ++ four) k 0) count
      (get_or-append_right words four (4 * count) (4 * count) 0 whole (omega arith))
      (get_or-append_right words four (4 * count) (4 * count + 1) 0 whole (omega arith))
      (get_or-append_right words four (4 * count) (4 * count + 2) 0 whole (omega arith))
      ∙ ap (λ (n : ℕ). entry_of (get_or four n 0) (get_or four (4 * count + 1 - 4 * count) 0) (get_or four (4 * count + 2 - 4 * count) 0)) (let e : 4 * count - 4 * count ≡ 0 = omega arith in e)
      ∙ ap (λ (n : ℕ). entry_of (get_or four 0 0) (get_or four n 0) (get_or four (4 * count + 2 - 4 * count) 0)) (let e : 4 * count + 1 - 4 * count ≡ 1 = omega arith in e)
      ∙ ap (λ (n : ℕ). entry_of (get_or four 0 0) (get_or four 1 0) (get_or four n 0)) (let e : 4 * count + 2 - 4 * count ≡ 2 = omega arith in e)
      ∙ entry-told term step (length front) (length front + length part) b small in
      let long : length front + length part - length front ≡ length part = omega arith in
      let bytes : take (length front + length part - length front) (drop (length front) (front ++ part)) ≡ part =
      ap (λ (n : ℕ). take n (drop (length front) (front ++ part))) long ∙ ap (take (length part)) (drop-append_seam front part) ∙ take_all (length part) part (omega arith) in
      subst (λ (e : Entry). IsEntryOf (front ++ part) e term (list term)) (sym told) (record {
        term_is = refl;
        step = step_is;
        within = omega (arith, length-append front part);
        byte = λ v. ap (λ (bs : List ℕ). byte_in b bs v * step) bytes ∙ byte v;
      })

  pub added : AreMaximaIn has list (term + 1) (length (words ++ four) / 4) (λ k. get_or (words ++ four) k 0) (front ++ part)
  added =
      let more : length (words ++ four) / 4 ≡ count + 1 = omega (arith, whole, longer) in
      let terms : List ℕ = terms_with has term in
      let pushed : terms_with has (term + 1) ≡ terms ++ term ∷ [] = terms-taken has term with_it in
      let same = so_far.count_is in
      record {
        count_is = omega (arith, more, same, ap length pushed, length-append terms (term ∷ []));
        each = λ i within.
            subst (λ (ts : List ℕ). IsEntryOf (front ++ part) (entry_in (λ k. get_or (words ++ four) k 0) i) (get_or ts i 0) (list (get_or ts i 0))) (sym pushed)
            (elim (cases_lt i count) as (λ _. IsEntryOf (front ++ part) (entry_in (λ k. get_or (words ++ four) k 0) i) (get_or (terms ++ term ∷ []) i 0) (list (get_or (terms ++ term ∷ []) i 0))) [
              | inl before ↦
                  (let left : get_or (terms ++ term ∷ []) i 0 ≡ get_or terms i 0 = get_or_append_left terms (term ∷ []) 0 i (omega (arith, before, same)) in
                  let old : entry_in (λ k. get_or (words ++ four) k 0) i ≡ entry_in (λ k. get_or words k 0) i =
                  entry-same (λ (k : ℕ). get_or words k 0) (λ (k : ℕ). get_or (words ++ four) k 0) i
                  (get_or_append_left words four 0 (4 * i) (omega (arith, before, whole))) (get_or_append_left words four 0 (4 * i + 1) (omega (arith, before, whole))) (get_or_append_left words four 0 (4 * i + 2) (omega (arith, before, whole))) in
                  subst (λ (t : ℕ). IsEntryOf (front ++ part) (entry_in (λ k. get_or (words ++ four) k 0) i) t (list t)) (sym left)
                  (subst (λ (e : Entry). IsEntryOf (front ++ part) e (get_or terms i 0) (list (get_or terms i 0))) (sym old) (entry-front front part (entry_in (λ k. get_or words k 0) i) (get_or terms i 0) (list (get_or terms i 0)) (so_far.each i before))))
              | inr end ↦
                  (let at : count ≡ i = omega (arith, end, within, more) in
                  let here : get_or (terms ++ term ∷ []) i 0 ≡ term = get_or_push terms term 0 i (sym same ∙ at) in
                  subst (λ (t : ℕ). IsEntryOf (front ++ part) (entry_in (λ k. get_or (words ++ four) k 0) i) t (list t)) (sym here)
                  (subst (λ (j : ℕ). IsEntryOf (front ++ part) (entry_in (λ k. get_or (words ++ four) k 0) j) term (list term)) at last))
            ]);
      }

-- ---- all of them as one slice

module _ (has : ℕ → Bool) (list : ℕ → List Posting) (n : ℕ) (front words bytes : List ℕ)
    (whole : length words ≡ 4 * (length words / 4)) (fits : All (λ w. w < 2 ^ 64) words) (short : length front < 2 ^ 64)
    (is : bytes ≡ (front ++ word_bytes words) ++ le64 (length front)) (are : AreMaximaIn has list n (length words / 4) (λ k. get_or words k 0) front) where
  abbrev body : List ℕ
  body = front ++ word_bytes words

  long : length (body ++ le64 (length front)) ≡ length front + 8 * length words + 8
  long = omega (arith, length-append body (le64 (length front)), length-append front (word_bytes words), words-length words, eight (length front))

  begins : directory_of (body ++ le64 (length front)) ≡ length front
  begins =
      let at : length (body ++ le64 (length front)) - 8 ≡ length body = omega (arith, long, length-append front (word_bytes words), words-length words) in
      let told : word_from (body ++ le64 (length front)) (length (body ++ le64 (length front)) - 8) ≡ length front =
      ap (word_from (body ++ le64 (length front))) at ∙ word-behind body (length front) short in
      omega (arith, told, at, length-append front (word_bytes words))

  counted : count_of (body ++ le64 (length front)) ≡ length words / 4
  counted = omega (arith, begins, long, whole)

  word-is : (k : ℕ) → k < length words → word_of (body ++ le64 (length front)) k ≡ get_or words k 0
  word-is k within =
      ap (λ (d : ℕ). word_from (body ++ le64 (length front)) (d + 8 * k)) begins
      ∙ ap (λ (l : List ℕ). word_from l (length front + 8 * k)) (append-assoc front (word_bytes words) (le64 (length front)))
      ∙ word-among front words (le64 (length front)) k within fits

  pub finished : AreMaximaOf has list n bytes
  finished = subst (AreMaximaOf has list n) (sym is) (record {
    count_is = counted ∙ are.count_is;
    each = λ i within.
        let inside : i < length words / 4 = omega (arith, within, counted) in
        let same : entry_in (word_of (body ++ le64 (length front))) i ≡ entry_in (λ k. get_or words k 0) i =
        entry-same (λ (k : ℕ). get_or words k 0) (word_of (body ++ le64 (length front))) i
        (word-is (4 * i) (omega (arith, inside, whole))) (word-is (4 * i + 1) (omega (arith, inside, whole))) (word-is (4 * i + 2) (omega (arith, inside, whole))) in
        let t : ℕ = get_or (terms_with has n) i 0 in
        subst (λ (e : Entry). IsEntryOf (body ++ le64 (length front)) e t (list t)) (sym same)
        (subst (λ (l : List ℕ). IsEntryOf l (entry_in (λ k. get_or words k 0) i) t (list t)) (sym (append-assoc front (word_bytes words) (le64 (length front))))
        (entry-front front (word_bytes words ++ le64 (length front)) (entry_in (λ k. get_or words k 0) i) t (list t) (are.each i inside)));
  })

-- ---- maxima are found

module _ (has : ℕ → Bool) (list : ℕ → List Posting) (n : ℕ) (bytes : List ℕ) (are : AreMaximaOf has list n bytes) where
  abbrev entry : ℕ → Entry
  entry i = entry_in (word_of bytes) i

  -- the terms of the entries rise
  pub rising : AreRising (λ i. (entry i).term) (count_of bytes)
  rising i j lt within =
      let same = are.count_is in
      let left = (are.each i (omega (arith, lt, within))).term_is in
      let right = (are.each j within).term_is in
      let r : get_or (terms_with has n) i 0 < get_or (terms_with has n) j 0 = terms-rise has n i j lt (omega (arith, within, same)) in
      omega (arith, left, right, r)

  -- the term of an entry has maxima
  pub found-has : (i term : ℕ) → i < count_of bytes → (entry i).term ≡ term → has term ≡ true
  found-has i term within is =
      let at : get_or (terms_with has n) i 0 ≡ term = sym (are.each i within).term_is ∙ is in
      subst (λ (t : ℕ). has t ≡ true) at (all-have has n i 0 (omega (arith, within, are.count_is))).0

  -- they are those of its list
  pub found : (i term : ℕ) → i < count_of bytes → (entry i).term ≡ term → (1 ≤ (entry i).step) × ((entry i).to ≤ length bytes) × ((v : ℕ) → entry_byte bytes (entry i) v * (entry i).step ≡ rounded_up (list term) v)
  found i term within is =
      let at : get_or (terms_with has n) i 0 ≡ term = sym (are.each i within).term_is ∙ is in
      let own : IsEntryOf bytes (entry i) term (list term) = subst (λ (t : ℕ). IsEntryOf bytes (entry i) t (list t)) at (are.each i within) in
      (omega (arith, own.step), own.within, own.byte)

  -- a term that no entry has has none
  pub absent : (term : ℕ) → term < n → ((i : ℕ) → i < count_of bytes → (entry i).term ≢ term) → has term ≡ false
  absent term within none = elim (cases_Bool (has term)) as (λ _. has term ≡ false) [
    | inl with_it ↦
        (let there : IsAt (terms_with has n) term = is-there has n term within with_it in
        let inside : there.0 < count_of bytes = omega (arith, there.1, are.count_is) in
        absurd (none there.0 inside ((are.each there.0 inside).term_is ∙ there.2)))
    | inr no_maxima ↦ no_maxima
  ]

-- what holds of each of some values and of one behind them
pub each-more : {X : Type 0} (P : ℕ → X → Type 0) (n : ℕ) (xs more : List X) (x : X) → length xs ≡ n → more ≡ xs ++ x ∷ [] → ((i : ℕ) (d : X) → i < n → P i (get_or xs i d)) → P n x
    → (i : ℕ) (d : X) → i < n + 1 → P i (get_or more i d)
each-more {X} P n xs more x count pushed each last i d within =
    subst (λ ys. P i (get_or ys i d)) (sym pushed) (elim (cases_lt i n) as (λ _. P i (get_or (xs ++ x ∷ []) i d)) [
      | inl before ↦ subst (P i) (sym (get_or_append_left xs (x ∷ []) d i (omega (arith, before, count)))) (each i d before)
      | inr from ↦
          (let same : n ≡ i = omega (arith, from, within) in
          subst (P i) (sym (get_or_push xs x d i (count ∙ same))) (subst (λ k. P k x) same last))
    ])
