-- Lemmas on places that are left to be given.
use Rattle.std.proofs.Common.{◌≡◌, ℕ, suc, ◌+◌, ◌-◌, ◌^◌, ◌<◌, ◌≤◌, List, ◌∷◌, length, take, drop, get_or, replicate, sum, min, inl, inr, sym, ap, subst, ◌∙◌, arith}
use Rattle.std.specs.Prelude.{slice_index}
use Rattle.std.proofs.lemmas.Bool.{cases_lt}
use Rattle.std.proofs.lemmas.List.{take_all, take-take, drop-take, length-take, length-drop, get_or-take}
use Rattle.std.proofs.lemmas.List.Sums.{sum_by-take-drop, sum_by_more}
use Rattle.std.proofs.lemmas.List.FromFn.{get_or-map-range_with_len}
use Rattle.std.proofs.lemmas.List.Elements.{All-get_or}
use Rattle.std.proofs.Math.Seq.{drop-cons, take-append_seam}
use Rattle.bit_words.specs.Bits.{bits_of, words_of, padding, field_at, ones_between}
use Rattle.bit_words.specs.Laws.{BitsOfWords}
use Rattle.bit_words.proofs.Ranges.{field-one}
use Rattle.bit_words.proofs.Value.{length-bits_of}
use Rattle.directory_places.specs.Places.{place_of, places_of, AreMarked, AreSpelled}
use Rattle.directory_places.specs.Source.{AreLeft}
use Rattle.directory_places.specs.declared.source.PlaceSource.{PlaceSource}
use Rattle.directory_places.proofs.Marks.{sum-take, length-places}

-- marks, from their words
abbrev pub marks_in : List ℕ → ℕ → List ℕ
marks_in words lists = take lists (bits_of words)

pub length-marks : (words ends : List ℕ) (lists : ℕ) → AreSpelled words ends lists → length (marks_in words lists) ≡ lists
length-marks words ends lists h = omega (arith, length-take lists (bits_of words), length-bits_of words, h.within)

-- the words of marks
pub marks-back : BitsOfWords → (marks ends : List ℕ) → AreMarked marks ends → marks_in (words_of marks) (length marks) ≡ marks
marks-back law marks ends h = ap (take (length marks)) (law marks h.bits) ∙ take-append_seam marks (replicate (padding (length marks)) 0)

pub spelled-marks : BitsOfWords → (marks ends words : List ℕ) (lists : ℕ) → AreMarked marks ends → words ≡ words_of marks → lists ≡ length marks → AreSpelled words ends lists
spelled-marks law marks ends words lists h written many =
    let back : marks_in words lists ≡ marks = (λ t. marks_in (written t) (many t)) ∙ marks-back law marks ends h in
    record {
      within = omega (arith, ap length back, many, length-take lists (bits_of words), length-bits_of words);
      marked = subst (λ m. AreMarked m ends) (sym back) h;
    }

pub places-back : BitsOfWords → (marks ends words : List ℕ) (lists : ℕ) → AreMarked marks ends → words ≡ words_of marks → lists ≡ length marks → places_of (marks_in words lists) ends ≡ places_of marks ends
places-back law marks ends words lists h written many = ap (λ m. places_of m ends) ((λ t. marks_in (written t) (many t)) ∙ marks-back law marks ends h)

-- the ones before a place, and up to a later one
sum-split : (xs : List ℕ) (at n : ℕ) → sum (take at xs) + sum (take n (drop at xs)) ≡ sum (take (at + n) xs)
sum-split xs at n =
    let first : sum (take at xs) ≡ sum (take at (take (at + n) xs)) = ap sum (sym (take-take at (at + n) xs (omega arith))) in
    let rest : sum (take n (drop at xs)) ≡ sum (drop at (take (at + n) xs)) = ap sum (sym (drop-take at n xs)) in
    omega (arith, first, rest, sum_by-take-drop (λ x. x) (take (at + n) xs) at)

-- numbers that stand behind places that were given
pub record AreTaken (words ends : List ℕ) (lists at passed y : ℕ) (ys : List ℕ) : Type 0 where
  pub place : y ≡ slice_index ends passed + at
  pub rest : ys ≡ drop (at + 1) (places_of (marks_in words lists) ends)
  pub within : at ≤ lists
  pub there : passed < length ends
  pub small : slice_index ends passed < 2 ^ 62
  pub few : lists < 2 ^ 62

pub are-taken : (words ends : List ℕ) (lists at passed y : ℕ) (ys : List ℕ) → AreSpelled words ends lists → passed ≡ sum (take at (marks_in words lists))
    → y ∷ ys ≡ drop at (places_of (marks_in words lists) ends) → AreTaken words ends lists at passed y ys
are-taken words ends lists at passed y ys spelled before left =
    let m : List ℕ = marks_in words lists in
    let p : List ℕ = places_of m ends in
    let count : length (marks_in words lists) ≡ lists = length-marks words ends lists spelled in
    let within : at < length (marks_in words lists) + 1 = omega (arith, ap length left, length-drop at p, length-places m ends) in
    let first : y ∷ ys ≡ get_or (places_of (marks_in words lists) ends) at 0 ∷ drop (suc at) (places_of (marks_in words lists) ends) = left ∙ drop-cons p at 0 (omega (arith, within, length-places m ends)) in
    let there : passed < length ends = omega (arith, before, sum-take at m, spelled.marked.one_each) in
    record {
      place = ap (λ l. get_or l 0 0) first ∙ get_or-map-range_with_len (place_of m ends) 0 (length m + 1) at at 0 within (omega arith) ∙ ap (λ k. slice_index ends k + at) (sym before);
      rest = ap (drop 1) first ∙ ap (λ k. drop k p) (let e : suc at ≡ at + 1 = omega arith in e);
      within = omega (arith, within, count);
      there = there;
      small = All-get_or (λ e. e < 2 ^ 62) ends passed 0 there spelled.marked.small;
      few = omega (arith, count, spelled.marked.few);
    }

-- how many ends are passed behind one list more
pub passed-one : (words ends : List ℕ) (lists at passed : ℕ) → AreSpelled words ends lists → passed ≡ sum (take at (marks_in words lists)) → at < lists
    → passed + field_at (bits_of words) at 1 ≡ sum (take (at + 1) (marks_in words lists))
passed-one words ends lists at passed spelled before lt =
    let m : List ℕ = marks_in words lists in
    let bit : field_at (bits_of words) at 1 ≡ get_or (marks_in words lists) at 0 = field-one (bits_of words) at ∙ sym (get_or-take lists (bits_of words) at 0 lt) in
    omega (arith, before, bit, sum_by_more (λ b. b) m at 0 (omega (arith, lt, length-marks words ends lists spelled)))

pub passed-few : (words ends : List ℕ) (lists at passed : ℕ) → AreSpelled words ends lists → passed ≡ sum (take at (marks_in words lists)) → passed < length ends
passed-few words ends lists at passed spelled before = omega (arith, before, sum-take at (marks_in words lists), spelled.marked.one_each)

-- behind all lists none is passed
pub passed-none : (words ends : List ℕ) (lists at to : ℕ) → AreSpelled words ends lists → lists ≤ at → at ≤ to → sum (take at (marks_in words lists)) ≡ sum (take to (marks_in words lists))
passed-none words ends lists at to spelled le further =
    let m : List ℕ = marks_in words lists in
    let count = length-marks words ends lists spelled in
    ap sum (take_all at m (omega (arith, le, count)) ∙ sym (take_all to m (omega (arith, le, further, count))))

-- behind some lists more
pub passed-some : (words ends : List ℕ) (lists at count end passed : ℕ) → AreSpelled words ends lists → passed ≡ sum (take at (marks_in words lists)) → end ≡ min lists (at + count) → at < end
    → passed + ones_between (bits_of words) at end ≡ sum (take (at + count) (marks_in words lists))
passed-some words ends lists at count end passed spelled before to lt =
    let m : List ℕ = marks_in words lists in
    let b : List ℕ = bits_of words in
    let within : end ≤ lists = omega (arith, to) in
    let first : sum (take at (marks_in words lists)) ≡ sum (take at (bits_of words)) = ap sum (take-take at lists b (omega (arith, within, lt))) in
    let whole : sum (take (at + (end - at)) (bits_of words)) ≡ sum (take end (marks_in words lists)) =
    ap (λ k. sum (take k b)) (let e : at + (end - at) ≡ end = omega (arith, lt) in e) ∙ ap sum (sym (take-take end lists b within)) in
    let last : sum (take end (marks_in words lists)) ≡ sum (take (at + count) (marks_in words lists)) =
    elim (cases_lt lists (at + count)) [
      | inl more ↦ passed-none words ends lists end (at + count) spelled (omega (arith, to, more)) (omega (arith, to))
      | inr less ↦ ap (λ k. sum (take k m)) (let e : end ≡ at + count = omega (arith, to, less) in e)
    ] in
    omega (arith, before, first, sum-split b at (end - at), whole, last)

-- where there is nothing to pass
pub passed-there : (words ends : List ℕ) (lists at count end passed : ℕ) → AreSpelled words ends lists → passed ≡ sum (take at (marks_in words lists)) → end ≡ min lists (at + count) → end ≤ at
    → passed ≡ sum (take (at + count) (marks_in words lists))
passed-there words ends lists at count end passed spelled before to le =
    let m : List ℕ = marks_in words lists in
    elim (cases_lt lists (at + count)) [
      | inl more ↦ before ∙ passed-none words ends lists at (at + count) spelled (omega (arith, to, more, le)) (omega arith)
      | inr less ↦ before ∙ ap (λ k. sum (take k m)) (let e : at ≡ at + count = omega (arith, to, less, le) in e)
    ]

-- there are no more places than lists, and one
pub left-few : (s : PlaceSource) (ys : List ℕ) (count : ℕ) → AreLeft s ys → count ≤ length ys → (s.at + count ≤ s.lists + 1) × (s.lists < 2 ^ 62)
left-few s ys count h many =
    let m : List ℕ = marks_in s.marks.words.now s.lists in
    let all : length (marks_in s.marks.words.now s.lists) ≡ s.lists = length-marks s.marks.words.now s.ends.now s.lists h.spelled in (
      omega (arith, many, h.reached, ap length h.left, length-drop s.at (places_of m s.ends.now), length-places m s.ends.now, all),
      omega (arith, all, h.spelled.marked.few),
    )
