-- Lemmas on lists that are passed.
use Rattle.std.proofs.Common.{◌≡◌, refl, sym, ap, ◌∙◌, inl, inr, ℕ, ◌+◌, ◌*◌, ◌/◌, ◌<◌, ◌≤◌, Bool, true, false, cond, List, [], ◌∷◌, take, length, arith}
use Rattle.std.specs.Prelude.{filter, nat_le, ◌&&◌}
use Rattle.std.specs.List.{sum_by}
use Rattle.std.proofs.lemmas.Bool.{cases_lt}
use Rattle.std.proofs.lemmas.List.{take_all, take_more}
use Rattle.std.proofs.lemmas.List.Elements.{filter-append}
use Rattle.std.proofs.lemmas.List.Sums.{sum_by-append}
use Rattle.collection_model.specs.Collection.{Collection, Posting, list_of}
use Rattle.interval_max.specs.Intervals.{interval_count}
use Rattle.interval_max.specs.Kept.{HoldsMaxima}
use Rattle.interval_max.specs.declared.writer.MaximaWriter.{MaximaWriter}
use Rattle.interval_max.proofs.Kept.{skipped}
use Rattle.index_intervals.specs.LongLists.{has_maxima, is_long, long_postings}
use Rattle.index_intervals.specs.Taken.{AreTaken, AreTakenOrLost}
use Rattle.index_intervals.specs.declared.taking.ListMaxima.{ListMaxima}

-- the long one of one list, or none
one-long : (long : List Posting → Bool) (list : List Posting) → sum_by length (filter long (list ∷ [])) ≡ cond (long list) (length list) 0
one-long long list = by (long list) refl
  where
    by : (b : Bool) → long list ≡ b → sum_by length (filter long (list ∷ [])) ≡ cond (long list) (length list) 0
    by true is = grind (arith, is)
    by false is = grind (arith, is)

-- the postings with one list more
pub postings-more : (c : Collection) (t : ℕ) → t < length c.lists → long_postings c (t + 1) ≡ long_postings c t + cond (is_long c.documents (list_of c t)) (length (list_of c t)) 0
postings-more c t within =
    let long : List Posting → Bool = is_long c.documents in
    ap (λ (ls : List (List Posting)). sum_by length (filter long ls)) (take_more c.lists t [] within)
    ∙ ap (sum_by length) (filter-append long (take t c.lists) (list_of c t ∷ []))
    ∙ sum_by-append length (filter long (take t c.lists)) (filter long (list_of c t ∷ []))
    ∙ ap (λ (n : ℕ). long_postings c t + n) (one-long long (list_of c t))

-- a list that is not long has no maxima
pub none-short : (words : ℕ) (c : Collection) (t : ℕ) → is_long c.documents (list_of c t) ≡ false → has_maxima words c t ≡ false
none-short words c t short = ap (λ (b : Bool). b && nat_le (long_postings c (t + 1) / 64) words) short

-- a list that is not long adds no postings
pub none-more : (c : Collection) (t : ℕ) → is_long c.documents (list_of c t) ≡ false → long_postings c (t + 1) ≡ long_postings c t
none-more c t short = elim (cases_lt t (length c.lists)) as (λ _. long_postings c (t + 1) ≡ long_postings c t) [
  | inl within ↦ omega (arith, postings-more c t within, ap (λ (b : Bool). cond b (length (list_of c t)) 0) short)
  | inr behind ↦
      (let front : take (t + 1) c.lists ≡ take t c.lists = take_all (t + 1) c.lists (omega (arith, behind)) ∙ sym (take_all t c.lists behind) in
      ap (λ (ls : List (List Posting)). sum_by length (filter (is_long c.documents) ls)) front)
]

-- the maxima that are held are those with one list more that has none
pub held-passed : (words : ℕ) (c : Collection) (t : ℕ) (w : MaximaWriter) → HoldsMaxima (has_maxima words c) (list_of c) t w → has_maxima words c t ≡ false → HoldsMaxima (has_maxima words c) (list_of c) (t + 1) w
held-passed words c t w holds none = record {
  whole = holds.whole;
  maxima = skipped (has_maxima words c) (list_of c) t _ _ _ holds.maxima none;
}

-- a list that is not long is passed
pub not-long-passed : (m : ListMaxima) (c : Collection) (t : ℕ) → AreTakenOrLost m c t → is_long c.documents (list_of c t) ≡ false → AreTakenOrLost m c (t + 1)
not-long-passed m c t so_far short = λ good kept.
    let h : AreTaken m c t = so_far good kept in
    record {
      postings = omega (arith, h.postings, none-more c t short);
      maxima = held-passed m.words c t m.writer h.maxima (none-short m.words c t short);
    }

-- so is one of one posting or none
pub short-passed : (m : ListMaxima) (c : Collection) (t : ℕ) → AreTakenOrLost m c t → length (list_of c t) ≤ 1 → AreTakenOrLost m c (t + 1)
short-passed m c t so_far few = not-long-passed m c t so_far (let no : nat_le 256 (length (list_of c t)) ≡ false = grind (arith, few) in ap (λ (b : Bool). b && nat_le (interval_count c.documents) (256 * length (list_of c t))) no)
