-- Lemmas on peaks to which a posting is added.
use Rattle.std.proofs.Common.{◌≡◌, refl, sym, ap, inl, inr, ◌∙◌, subst, ℕ, ◌+◌, ◌-◌, ◌<◌, ◌≤◌, ◌≢◌, max, cond, eqb, List, [], ◌∷◌, ◌++◌, take, length, length-append, get_or, set, arith}
use Rattle.std.specs.List.{All}
use Rattle.std.proofs.Math.Seq.{set-append_seam}
use Rattle.std.proofs.lemmas.Bool.{cases_lt}
use Rattle.std.proofs.lemmas.List.{get_or-map, length-map, take_more, length-set, get_or-set_same, get_or-set_other, get_or-take, get_or_default, get_or_push, length-take-le}
use Rattle.std.proofs.lemmas.List.Elements.{All-push, All-set}
use Rattle.std.proofs.lemmas.List.Quantifiers.{all_pairs_push}
use Rattle.std.proofs.lemmas.List.Kept.{AllPairs-from_increasing}
use Rattle.collection_model.specs.Collection.{Posting, docs_of, freqs_of}
use Rattle.collection_model.specs.NextBelow.{AreNextBelow}
use Rattle.cursor_api.specs.NextGeq.{IsCursorList}
use Rattle.interval_max.specs.Intervals.{interval_of, greatest_in}
use Rattle.interval_max.specs.Peaks.{ArePeaksTo, ArePostingsFrom}
use Rattle.interval_max.specs.declared.peaks.Peak.{Peak}
use Rattle.interval_max.proofs.Greatest.{most-push, most-set}
use Rattle.interval_max.proofs.Pairs.{nothing}

-- any peak
abbrev pub no_peak : Peak
no_peak = record { interval = 0; greatest = 0 }

-- the greatest frequency of a front of a list that is one longer
pub in-more : (list : List Posting) (from doc freq v : ℕ) → from < length list → doc ≡ get_or (docs_of list) from 0 → freq ≡ get_or (freqs_of list) from 0
    → greatest_in (take (from + 1) list) v ≡ max (greatest_in (take from list) v) (cond (eqb (interval_of doc) v) freq 0)
in-more list from doc freq v within doc_is freq_is =
    let none : Posting = record { doc = 0; freq = 0 } in
    let p : Posting = get_or list from none in
    let d : p.doc ≡ doc = sym (get_or-map (λ (p : Posting). p.doc) list from none 0 within) ∙ sym doc_is in
    let f : p.freq ≡ freq = sym (get_or-map (λ (p : Posting). p.freq) list from none 0 within) ∙ sym freq_is in
    ap (λ (l : List Posting). greatest_in l v) (take_more list from none within)
    ∙ most-push (λ (p : Posting). p.freq) (λ (p : Posting). eqb (interval_of p.doc) v) (take from list) p
    ∙ ap (λ (n : ℕ). max (greatest_in (take from list) v) (cond (eqb (interval_of n) v) p.freq 0)) d
    ∙ ap (λ (n : ℕ). max (greatest_in (take from list) v) (cond (eqb (interval_of doc) v) n 0)) f

-- peaks without any posting
pub peaks-none : (list : List Posting) → ArePeaksTo list 0 []
peaks-none list = record {
  peaks_are = record { rising = λ i j d lt within. absurd (omega arith); each = λ v. refl };
  before = λ d low k e within. absurd (omega arith);
}

module _ (list : List Posting) (from doc freq : ℕ) (old : List Peak) (good : IsCursorList list) (within : from < length list) (doc_is : doc ≡ get_or (docs_of list) from 0) (freq_is : freq ≡ get_or (freqs_of list) from 0) (so_far : ArePeaksTo list from old) where
  -- no peak is of a later interval than the posting
  earlier : All (λ (p : Peak). p.interval ≤ interval_of doc) old
  earlier = so_far.before doc (λ k lt. let h = AllPairs-from_increasing (docs_of list) good.rising k from 0 lt (omega (arith, length-map list (λ (p : Posting). p.doc))) in omega arith)

  -- documents that are as high as the posting lie in as high an interval
  high : (d : ℕ) → ((k : ℕ) → k < from + 1 → get_or (docs_of list) k 0 ≤ d) → interval_of doc ≤ interval_of d
  high d low = let here = low from (omega arith) in omega arith

  -- the last peak is of the same interval
  pub peak-raised : (i : ℕ) (d : Peak) (g : ℕ) → i < length old → (get_or old i d).interval ≡ interval_of doc → g ≡ max (get_or old i d).greatest freq → ArePeaksTo list (from + 1) (set old i (record { interval = interval_of doc; greatest = g }))
  peak-raised i d g inside here raised =
      let new : Peak = record { interval = interval_of doc; greatest = g } in
      let count = length-set old i new in
      let same : (k : ℕ) (e : Peak) → k < length old → (get_or (set old i new) k e).interval ≡ (get_or old k e).interval = λ k e lt. elim (cases_lt k i) as (λ _. (get_or (set old i new) k e).interval ≡ (get_or old k e).interval) [
        | inl low ↦ (let other : k ≢ i = omega arith in ap (λ (p : Peak). p.interval) (get_or-set_other old i k new e other))
        | inr ge ↦ elim (cases_lt i k) as (λ _. (get_or (set old i new) k e).interval ≡ (get_or old k e).interval) [
          | inl above ↦ (let other : k ≢ i = omega arith in ap (λ (p : Peak). p.interval) (get_or-set_other old i k new e other))
          | inr le ↦ (let is : i ≡ k = omega arith in subst (λ (k : ℕ). (get_or (set old i new) k e).interval ≡ (get_or old k e).interval) is
              (ap (λ (p : Peak). p.interval) (get_or-set_same old i new e inside) ∙ (sym here ∙ ap (λ (p : Peak). p.interval) (get_or_default old i d e inside))))
        ]
      ] in
      record {
        peaks_are = record {
          rising = λ a b e lt short. let r = so_far.peaks_are.rising a b e lt (omega arith) in let x = same a e (omega arith) in let y = same b e (omega arith) in omega arith;
          each = λ v.
              most-set (λ (p : Peak). p.greatest) (λ (p : Peak). eqb p.interval v) old i new d freq inside (ap (λ (n : ℕ). eqb n v) (sym here)) raised
              ∙ ap (λ (n : ℕ). max n (cond (eqb (get_or old i d).interval v) freq 0)) (so_far.peaks_are.each v)
              ∙ ap (λ (n : ℕ). max (greatest_in (take from list) v) (cond (eqb n v) freq 0)) here
              ∙ sym (in-more list from doc freq v within doc_is freq_is);
        };
        before = λ d low. All-set (λ (p : Peak). p.interval ≤ interval_of d) old i new (high d low) (so_far.before d (λ k lt. low k (omega arith)));
      }

  -- no peak is of its interval: there is none, or the last is of another
  pub peak-pushed : ((k : ℕ) (d : Peak) → k + 1 ≡ length old → (get_or old k d).interval ≢ interval_of doc) → ArePeaksTo list (from + 1) (old ++ record { interval = interval_of doc; greatest = freq } ∷ [])
  peak-pushed other =
      let new : Peak = record { interval = interval_of doc; greatest = freq } in
      let below : (k : ℕ) (d : Peak) → k < length old → (get_or old k d).interval < interval_of doc = λ k d lt.
      elim (cases_lt (k + 1) (length old)) as (λ _. (get_or old k d).interval < interval_of doc) [
        | inl more ↦ (let r = so_far.peaks_are.rising k (length old - 1) d (omega arith) (omega arith) in let e = earlier (length old - 1) d (omega arith) in omega arith)
        | inr last ↦ (let e = earlier k d lt in let o = other k d (omega arith) in omega arith)
      ] in
      record {
        peaks_are = record {
          rising = all_pairs_push (λ (a b : Peak). a.interval < b.interval) old new so_far.peaks_are.rising below;
          each = λ v.
              most-push (λ (p : Peak). p.greatest) (λ (p : Peak). eqb p.interval v) old new
              ∙ ap (λ (n : ℕ). max n (cond (eqb (interval_of doc) v) freq 0)) (so_far.peaks_are.each v)
              ∙ sym (in-more list from doc freq v within doc_is freq_is);
        };
        before = λ d low. All-push (λ (p : Peak). p.interval ≤ interval_of d) old new (so_far.before d (λ k lt. low k (omega arith))) (high d low);
      }

-- a peak of 0 tells nothing
pub peak-of_nothing : (list : List Posting) (from : ℕ) → ArePeaksTo list from [] → ArePeaksTo list from (record { interval = 0; greatest = 0 } ∷ [])
peak-of_nothing list from so_far = record {
  peaks_are = record {
    rising = λ i j d lt within. absurd (omega (arith, lt, within));
    each = λ v. most-push (λ (p : Peak). p.greatest) (λ (p : Peak). eqb p.interval v) [] (record { interval = 0; greatest = 0 }) ∙ (let none : cond (eqb 0 v) 0 0 ≡ 0 = nothing (eqb 0 v) 0 refl in omega (arith, none, so_far.peaks_are.each v));
  };
  before = λ d low. All-push (λ (p : Peak). p.interval ≤ interval_of d) [] (record { interval = 0; greatest = 0 }) (so_far.before d low) (omega arith);
}

module _ (list : List Posting) (from doc freq : ℕ) (before : List Peak) (last : Peak) (good : IsCursorList list) (within : from < length list) (doc_is : doc ≡ get_or (docs_of list) from 0) (freq_is : freq ≡ get_or (freqs_of list) from 0) (so_far : ArePeaksTo list from (before ++ last ∷ [])) where
  read : (d : Peak) → get_or (before ++ last ∷ []) (length before) d ≡ last
  read d = get_or_push before last d (length before) refl

  -- the last of some peaks is of the interval of the posting
  pub last-raised : (g : ℕ) → interval_of doc ≡ last.interval → g ≡ max last.greatest freq → ArePeaksTo list (from + 1) (before ++ record { interval = interval_of doc; greatest = g } ∷ [])
  last-raised g here raised =
      let new : Peak = record { interval = interval_of doc; greatest = g } in
      subst (ArePeaksTo list (from + 1)) (set-append_seam before last [] new)
      (peak-raised list from doc freq (before ++ last ∷ []) good within doc_is freq_is so_far (length before) last g (omega (arith, length-append before (last ∷ [])))
      (ap (λ (p : Peak). p.interval) (read last) ∙ sym here) (raised ∙ sym (ap (λ (p : Peak). max p.greatest freq) (read last))))

  -- the last of them is of another
  pub last-followed : interval_of doc ≢ last.interval → ArePeaksTo list (from + 1) ((before ++ last ∷ []) ++ record { interval = interval_of doc; greatest = freq } ∷ [])
  last-followed other =
      peak-pushed list from doc freq (before ++ last ∷ []) good within doc_is freq_is so_far
      (λ k d end is.
      let at : k ≡ length before = omega (arith, end, length-append before (last ∷ [])) in
      other (sym (sym (ap (λ (p : Peak). p.interval) (ap (λ (i : ℕ). get_or (before ++ last ∷ []) i d) at ∙ read d)) ∙ is)))

-- the next postings of a list, which a cursor gave
pub next-postings : (list now : List Posting) (place count : ℕ) (docs freqs : List ℕ) → now ≡ list → IsCursorList list → AreNextBelow (docs_of now) place 4294967296 docs count → ((j : ℕ) → j < count → get_or freqs j 0 ≡ get_or (freqs_of now) (place + j) 0)
    → ArePostingsFrom list place (take count docs) freqs
next-postings list now place count docs freqs same good next theirs =
    let long : length (take count docs) ≡ count = length-take-le count docs next.room in
    let within = next.within in
    let all = ap (λ (l : List Posting). length (docs_of l)) same in
    record {
      good = good;
      within = omega (arith, length-map list (λ (p : Posting). p.doc));
      docs_are = λ j lt. get_or-take count docs j 0 (omega arith) ∙ next.same j (omega arith) ∙ ap (λ (l : List Posting). get_or (docs_of l) (place + j) 0) same;
      freqs_are = λ j lt. theirs j (omega arith) ∙ ap (λ (l : List Posting). get_or (freqs_of l) (place + j) 0) same;
    }
