-- Lemmas on the frequencies of lists that stand one after the other.
use Rattle.std.proofs.Common.{◌≡◌, refl, sym, ap, ◌∙◌, subst, ℕ, ◌+◌, ◌-◌, ◌<◌, ◌≤◌, ◌≢◌, leb, List, length, get_or, set, take, drop, max, inl, inr, cond, arith, length-drop}
use Rattle.std.specs.Prelude.{slice_index}
use Rattle.std.specs.List.{position_or_len, count_by}
use Rattle.std.proofs.lemmas.Bool.{cases_lt, leb-false, leb-true, lt-leb, le-leb}
use Rattle.std.proofs.lemmas.List.{get_or-drop, get_or-map, map-append}
use Rattle.std.proofs.lemmas.List.Sums.{prefix_len-le-length, position_or_len_is, fails_before_first, passes_at_first, sum_by-append}
use Rattle.collection_model.specs.Collection.{Posting, freqs_of}
use Rattle.cursor_api.specs.NextGeq.{next_frequent_place}
use Rattle.segments.specs.Joined.{ListPart, shifted, joined_list}
use Rattle.segments.specs.JoinedCursor.{no_part, places_of, start_of, joined_place}
use Rattle.segments.specs.CursorPlaces.{part-within}
use Rattle.segments.proofs.Joins.{no_posting, freq-at, joined-more, IsMoved, moved-next}
use Rattle.segments.proofs.Shifts.{shifted-freqs}

-- a place at or after another: the first whose frequency is at least f, or the end of the list
pub record IsNextFrequent (list : List Posting) (place f found : ℕ) : Type 0 where
  pub at_or_after : place ≤ found
  pub within : found ≤ length list
  pub passed : (k : ℕ) → place ≤ k → k < found → slice_index (freqs_of list) k < f
  pub reached : found < length list → f ≤ slice_index (freqs_of list) found

-- frequency k of a list, counted from a place
freq-from : (list : List Posting) (place j k : ℕ) → place + j ≡ k → k < length list → get_or (freqs_of list) k 0 ≡ (get_or (drop place list) j no_posting).freq
freq-from list place j k e within = get_or-map (λ p. p.freq) list k no_posting 0 within ∙ ap (λ i. (get_or list i no_posting).freq) (sym e) ∙ ap (λ p. p.freq) (sym (get_or-drop place list j no_posting))

next-first : (list : List Posting) (place f : ℕ) → place ≤ length list → IsNextFrequent list place f (next_frequent_place list place f)
next-first list place f within =
    let rest : List Posting = drop place list in
    let far : ℕ = position_or_len (λ p. leb f p.freq) rest in
    let count : length rest ≡ length list - place = length-drop place list in
    let far_within : far ≤ length rest = prefix_len-le-length _ rest in
    record {
      at_or_after = omega arith;
      within = omega arith;
      passed = λ k from before.
          let fails = leb-false _ _ (fails_before_first (λ p. leb f p.freq) rest (k - place) no_posting (omega arith)) in
          omega (arith, fails, freq-from list place (k - place) k (omega arith) (omega arith));
      reached = λ inside.
          let passes = leb-true _ _ (passes_at_first (λ p. leb f p.freq) rest no_posting (omega arith)) in
          omega (arith, passes, freq-from list place far (place + far) refl (omega arith));
    }

pub next-one : (list : List Posting) (place f found : ℕ) → IsNextFrequent list place f found → found ≡ next_frequent_place list place f
next-one list place f found is =
    let rest : List Posting = drop place list in
    let count : length rest ≡ length list - place = length-drop place list in
    let from : place ≤ found = is.at_or_after in
    let within : found ≤ length list = is.within in
    let far : position_or_len (λ p. leb f p.freq) rest ≡ found - place =
    position_or_len_is (λ p. leb f p.freq) rest (found - place) no_posting (omega arith)
    (λ k before. lt-leb _ _ (omega (arith, is.passed (place + k) (omega arith) (omega arith), freq-from list place k (place + k) refl (omega arith))))
    (λ before. le-leb _ _ (omega (arith, is.reached (omega arith), freq-from list place (found - place) found (omega arith) (omega arith)))) in
    omega arith

-- All frequencies from a place to another are below f.
pub record AreRarer (parts : List ListPart) (from f now : ℕ) : Type 0 where
  pub at_or_after : from ≤ now
  pub passed : (k : ℕ) → from ≤ k → k < now → slice_index (freqs_of (joined_list parts)) k < f

pub rarer-none : (parts : List ListPart) (from f : ℕ) → AreRarer parts from f from
rarer-none parts from f = record { at_or_after = omega arith; passed = λ k after before. absurd (omega arith) }

-- those that a part's cursor passes
rarer-more : (parts : List ListPart) (at from f place found : ℕ) → at < length parts → AreRarer parts from f (start_of parts at + place) → IsNextFrequent (get_or parts at no_part).list place f found
    → AreRarer parts from f (start_of parts at + found)
rarer-more parts at from f place found within before is = record {
  at_or_after = omega (arith, before.at_or_after, is.at_or_after);
  passed = λ k after lt. elim (cases_lt k (start_of parts at + place)) [
    | inl early ↦ before.passed k after early
    | inr late ↦ (let j : ℕ = k - start_of parts at in
        let h = is.passed j (omega arith) (omega arith) in
        let e : start_of parts at + j ≡ k = omega arith in
        omega (arith, h, freq-at parts at j within (omega (arith, is.within)), ap (λ i. get_or (freqs_of (joined_list parts)) i 0) e))
  ];
}

-- where the part has so frequent a posting, its place is the next one
rarer-stop : (parts : List ListPart) (at from f place found : ℕ) → at < length parts → found < length (get_or parts at no_part).list → AreRarer parts from f (start_of parts at + place)
    → IsNextFrequent (get_or parts at no_part).list place f found → IsNextFrequent (joined_list parts) from f (start_of parts at + found)
rarer-stop parts at from f place found within inside before is =
    let all = rarer-more parts at from f place found within before is in
    record {
      at_or_after = all.at_or_after;
      within = omega (arith, inside, part-within parts at within);
      passed = all.passed;
      reached = λ lt. omega (arith, is.reached inside, freq-at parts at found within inside);
    }

-- where no part has one, the end is
pub rarer-end : (parts : List ListPart) (from f now : ℕ) → now ≡ length (joined_list parts) → AreRarer parts from f now → IsNextFrequent (joined_list parts) from f now
rarer-end parts from f now end all = record {
  at_or_after = all.at_or_after;
  within = omega arith;
  passed = all.passed;
  reached = λ lt. absurd (omega arith);
}

-- what a cursor's next frequent posting tells of all parts
moved-rarer : {A : Type 0} {list : A → List Posting} {place : A → ℕ} {parts : List ListPart} {cursors : List (ℕ × A)} {at : ℕ} {old new : ℕ × A} {from f : ℕ} → IsMoved list place parts cursors at old new → AreRarer parts from f (joined_place parts (places_of place cursors) at) → AreRarer parts from f (start_of parts at + place old.1)
moved-rarer {A} {list} {place} {parts} {cursors} {at} {old} {new} {from} {f} moved before = subst (λ (k : ℕ). AreRarer parts from f (start_of parts at + k)) moved.before before

next-read : {A : Type 0} {list : A → List Posting} {place : A → ℕ} {parts : List ListPart} {cursors : List (ℕ × A)} {at : ℕ} {old new : ℕ × A} {f : ℕ} → IsMoved list place parts cursors at old new → place old.1 ≤ length (list old.1) → place new.1 ≡ next_frequent_place (list old.1) (place old.1) f
    → IsNextFrequent (get_or parts at no_part).list (place old.1) f (place new.1)
next-read {A} {list} {place} {parts} {cursors} {at} {old} {new} {f} moved within went =
    subst (λ (p : ListPart). IsNextFrequent p.list (place old.1) f (place new.1)) (sym moved.part)
    (subst (λ (n : ℕ). IsNextFrequent (list old.1) (place old.1) f n) (sym went) (next-first (list old.1) (place old.1) f within))

pub rarer-next : {A : Type 0} {list : A → List Posting} {place : A → ℕ} {parts : List ListPart} {cursors : List (ℕ × A)} {at : ℕ} {old new : ℕ × A} (from : ℕ) {f : ℕ} → IsMoved list place parts cursors at old new → AreRarer parts from f (joined_place parts (places_of place cursors) at)
    → place old.1 ≤ length (list old.1) → place new.1 ≡ next_frequent_place (list old.1) (place old.1) f → place new.1 ≡ length (list old.1) → AreRarer parts from f (joined_place parts (places_of place (set cursors at new)) (at + 1))
rarer-next {A} {list} {place} {parts} {cursors} {at} {old} {new} from {f} moved before within went ended =
    subst (λ (k : ℕ). AreRarer parts from f k) (sym (moved-next moved ended)) (rarer-more parts at from f (place old.1) (place new.1) moved.within (moved-rarer moved before) (next-read moved within went))

pub rarer-here : {A : Type 0} {list : A → List Posting} {place : A → ℕ} {parts : List ListPart} {cursors : List (ℕ × A)} {at : ℕ} {old new : ℕ × A} (from : ℕ) {f : ℕ} → IsMoved list place parts cursors at old new → AreRarer parts from f (joined_place parts (places_of place cursors) at)
    → place old.1 ≤ length (list old.1) → place new.1 ≡ next_frequent_place (list old.1) (place old.1) f → place new.1 < length (list old.1) → IsNextFrequent (joined_list parts) from f (start_of parts at + place new.1)
rarer-here {A} {list} {place} {parts} {cursors} {at} {old} {new} from {f} moved before within went left =
    rarer-stop parts at from f (place old.1) (place new.1) moved.within (omega (arith, left, ap (λ p. length p.list) moved.part)) (moved-rarer moved before) (next-read moved within went)

-- how many frequencies reach one in the parts up to the next
pub count-more : (t : ℕ) (parts : List ListPart) (at : ℕ) → at < length parts
    → count_by (λ x. leb t x) (freqs_of (joined_list (take (at + 1) parts))) ≡ count_by (λ x. leb t x) (freqs_of (joined_list (take at parts))) + count_by (λ x. leb t x) (freqs_of (get_or parts at no_part).list)
count-more t parts at within =
    let p : ListPart = get_or parts at no_part in
    let before : List ℕ = freqs_of (joined_list (take at parts)) in
    ap (λ xs. count_by (λ x. leb t x) (freqs_of xs)) (joined-more parts at within)
    ∙ ap (count_by (λ x. leb t x)) (map-append (λ q. q.freq) (joined_list (take at parts)) (shifted p.first p.list))
    ∙ sum_by-append (λ x. cond (leb t x) 1 0) before (freqs_of (shifted p.first p.list))
    ∙ ap (λ fs. count_by (λ x. leb t x) before + count_by (λ x. leb t x) fs) (shifted-freqs p.first p.list)

-- what is told of the parts up to the next, the greater of two
pub told-more : (k : ℕ) (parts : List ListPart) (at told most new : ℕ) → at < length parts → new ≡ max told most
    → (told ≢ 0 → k ≤ count_by (λ x. leb told x) (freqs_of (get_or parts at no_part).list)) → (most ≢ 0 → k ≤ count_by (λ x. leb most x) (freqs_of (joined_list (take at parts))))
    → new ≢ 0 → k ≤ count_by (λ x. leb new x) (freqs_of (joined_list (take (at + 1) parts)))
told-more k parts at told most new within is part before some =
    let whole = count-more new parts at within in
    elim (cases_lt most told) [
      | inl more ↦
          let same : new ≡ told = omega (arith, is, more) in
          let reach = part (λ zero. some (same ∙ zero)) in
          omega (arith, whole, reach, ap (λ t. count_by (λ x. leb t x) (freqs_of (get_or parts at no_part).list)) same)
      | inr less ↦
          let same : new ≡ most = omega (arith, is, less) in
          let reach = before (λ zero. some (same ∙ zero)) in
          omega (arith, whole, reach, ap (λ t. count_by (λ x. leb t x) (freqs_of (joined_list (take at parts)))) same)
    ]
