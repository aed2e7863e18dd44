-- Where the lists of a packed file begin.
use Rattle.std.proofs.Common.{◌≡◌, ℕ, zero, suc, ◌+◌, ◌-◌, ◌*◌, ◌<◌, ◌≤◌, Bool, true, false, List, [], ◌++◌, take, drop, length, inl, inr, sym, ap, ◌∙◌, subst, arith}
use Rattle.std.specs.Prelude.{slice_index, if◌then◌else◌, ◌==◌, ◌^◌}
use Rattle.std.specs.List.{All}
use Rattle.std.proofs.lemmas.Bool.{cases_lt, lt-ltb, le-ltb}
use Rattle.std.proofs.lemmas.List.{ext_get_or}
use Rattle.std.proofs.Math.Seq.{take-append_seam}
use Rattle.std.proofs.lemmas.List.FromFn.{length-map-range_with_len, get_or-map-range_with_len, fill_by_all}
use Rattle.collection_model.specs.NextBelow.{AreNextBelow}
use Rattle.part_cost.specs.declared.formats.Format.{Format}
use Rattle.part_cost.specs.declared.formats.Format.TheVariants.{Three}
use Rattle.part_cost.specs.Span.{AreRelative}
use Rattle.part_cost.specs.Formats.{numbers_of}
use Rattle.index_file.specs.FileWords.{format_read, IsIndex, IsIndexIn}
use Rattle.index_file.specs.PackedAt.{packed_terms, starts_stated, start_stated, PassesPacked}
use Rattle.index_file.specs.ListStarts.{list_starts, words_a_start, starts_of_format, kept_starts, AreNoneOr}
use Rattle.index_file.specs.IndexView.{IndexView, index_stated, with_starts, starts_of}
use Rattle.index_file.specs.Laws.{FileLaws}
use Rattle.index_file.proofs.PackedStarts.{rises-by}
use Rattle.index_file.proofs.FileKinds.{to-packed, index-is-read, spells-stated}
use Rattle.index_file.proofs.Both.{file-passes}

-- the numbers of a part are below its universe
pub below-universe : (u m : ℕ) (ys : List ℕ) → AreRelative u m ys → (k : ℕ) → k < length ys → slice_index ys k < u
below-universe u m ys h k lt =
    let e : slice_index ys (k + (length ys - 1 - k)) ≡ slice_index ys (m - 1) = ap (slice_index ys) (let f : k + (length ys - 1 - k) ≡ m - 1 = omega (arith, lt, h.count) in f) in
    omega (arith, e, h.last, rises-by ys h.rising k (length ys - 1 - k) (omega (arith, lt)))

-- all numbers of a part are given, where there is room for as many
pub all-given : (ys given : List ℕ) (u m x n : ℕ) → AreRelative u m ys → u ≤ x → m ≡ length given → AreNextBelow ys 0 x given n → given ≡ ys
all-given ys given u m x n r fit count h =
    let whole : length given ≤ n = elim (cases_lt n (length given)) [
      | inl lt ↦ absurd (omega (arith, fit, h.full lt (omega (arith, lt, count, r.count)), below-universe u m ys r (0 + n) (omega (arith, lt, count, r.count))))
      | inr ge ↦ ge
    ] in
    ext_get_or 0 given ys (sym count ∙ sym r.count) (λ k lt. h.same k (omega (arith, whole, lt)) ∙ ap (slice_index ys) (let f : 0 + k ≡ k = omega arith in f))

-- what is lent of a list and written
pub written : (len : ℕ) (new old : List ℕ) → len ≡ length new → take len (new ++ drop (length new) old) ≡ new
written len new old e = subst (λ n. take n (new ++ drop (length new) old) ≡ new) (sym e) (take-append_seam new (drop (length new) old))

-- the numbers of the directory less their places are where the lists begin
pub starts-less : (words numbers less : List ℕ) → numbers ≡ starts_stated words → length numbers ≡ packed_terms words + 1 → length less ≡ length numbers
    → ((t : ℕ) → t < length numbers → slice_index less t ≡ slice_index numbers t - t) → less ≡ list_starts words
starts-less words numbers less is count same each =
    fill_by_all (start_stated words) less (packed_terms words + 1) 0 (same ∙ count) (λ t lt. each t (omega (arith, lt, count)) ∙ ap (λ ys. slice_index ys t - t) is)

-- what is kept
choice : (b : Bool) (xs : List ℕ) → b ≡ true → (if b then [] else xs) ≡ []
choice b xs e = ap (λ a. if a then [] else xs) e

other : (b : Bool) (xs : List ℕ) → b ≡ false → (if b then [] else xs) ≡ xs
other b xs e = ap (λ a. if a then [] else xs) e

pub kept-none : (words : List ℕ) → length words < words_a_start * (packed_terms words + 1) → [] ≡ starts_of_format Three words
kept-none words lt = sym (choice _ (list_starts words) (lt-ltb _ _ lt))

pub kept-all : (words : List ℕ) → words_a_start * (packed_terms words + 1) ≤ length words → list_starts words ≡ starts_of_format Three words
kept-all words le = sym (other _ (list_starts words) (le-ltb _ _ le))

none-or : (b : Bool) (xs given : List ℕ) → AreNoneOr (if b then [] else xs) given → AreNoneOr xs given
none-or true xs given (inl e) = inl e
none-or true xs given (inr e) = inl e
none-or false xs given h = h

-- what an index keeps, where it is a packed file
of-format : (v : Format) (words given : List ℕ) → v ≡ Three → AreNoneOr (starts_of_format v words) given → AreNoneOr (list_starts words) given
of-format v words given e h = none-or _ (list_starts words) given (subst (λ f. AreNoneOr (starts_of_format f words) given) e h)

pub of-index : (words given : List ℕ) (i : IndexView) (v : Format) → AreNoneOr (kept_starts words) given → with_starts (index_stated words) given ≡ i → v ≡ i.format → v ≡ Three → AreNoneOr (list_starts words) given
unfolding index_stated
of-index words given i v h is same e = of-format (format_read words) words given (ap (λ x. x.format) is ∙ sym same ∙ e) h

-- what is kept is that of the index that the words state
pub kept-of-index : FileLaws → (words : List ℕ) → All (λ w. w < 2 ^ 64) words → IsIndex words → kept_starts words ≡ starts_of (index_stated words)
kept-of-index laws words narrow is = ap kept_starts (spells-stated laws words narrow is).spelled

-- some are given
pub some-given : (n : ℕ) → false ≡ (n == 0) → 0 < n
some-given zero e = cc
some-given (suc n) e = omega arith

pub all-kept : (words given : List ℕ) → AreNoneOr (list_starts words) given → 0 < length given → given ≡ list_starts words
all-kept words given (inl e) some = let none : length given ≡ 0 = ap length e in absurd (omega (arith, some, none))
all-kept words given (inr e) some = e

-- a list is found by two of them
pub start-is : (words starts : List ℕ) (t : ℕ) → starts ≡ list_starts words → t ≤ packed_terms words → slice_index starts t ≡ start_stated words t
start-is words starts t e le = ap (λ xs. slice_index xs t) e ∙ get_or-map-range_with_len (start_stated words) 0 (packed_terms words + 1) t t 0 (omega (arith, le)) (omega arith)

pub starts-count : (words starts : List ℕ) → starts ≡ list_starts words → length starts ≡ packed_terms words + 1
starts-count words starts e = ap length e ∙ length-map-range_with_len (start_stated words) 0 (packed_terms words + 1)

-- an index that is read as a packed file passes its checks
pub passes : FileLaws → (words : List ℕ) (v : Format) → IsIndex words → v ≡ format_read words → v ≡ Three → PassesPacked words
passes laws words v (f, i) same e =
    let is : f ≡ Three = sym (index-is-read f words i) ∙ sym same ∙ e in
    let packed = subst (λ x. IsIndexIn (numbers_of x) words) is i in
    file-passes laws words packed.0 packed.1 (to-packed words packed.0 packed.1 packed.2)
