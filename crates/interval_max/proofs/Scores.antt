-- Lemmas on scores that are added up list by list.
use Rattle.std.proofs.Common.{◌≡◌, refl, sym, ap, inl, inr, ◌∙◌, subst, ℕ, ◌+◌, ◌*◌, ◌<◌, ◌≤◌, ◌≢◌, true, false, eqb, List, [], length, get_or, set, take, map, Some, None, arith}
use Rattle.std.specs.Prelude.{◌↔◌}
use Rattle.std.specs.List.{All, AllWithin, find, position_or_len, list_any, sum_by, zip}
use Rattle.std.specs.Option.{option_map, unwrap_or}
use Rattle.std.proofs.lemmas.Bool.{cases_lt, false≢true, false_from_ne_true, true_from_ne_false}
use Rattle.std.proofs.lemmas.List.{map-set, set-get_or, get_or-map, length-map, length-set, get_or-set_other, get_or_default, take_all}
use Rattle.std.proofs.lemmas.List.Elements.{All-map}
use Rattle.std.proofs.lemmas.List.Folds.{list_any_at, find_at, Any-from_list_any}
use Rattle.std.proofs.lemmas.List.Sums.{sum_by_more, sum_by-le, get_or-le-sum_by, fails_before_first, passes_at_first}
use Rattle.std.proofs.lemmas.Nat.{mul-le}
use Rattle.std.proofs.lemmas.Option.{slice_get-get_or, slice_get_past}
use Rattle.std.proofs.lemmas.Slice.Zip.{length-zip, get_or-zip}
use Rattle.collection_model.specs.Collection.{Posting, freqs_of}
use Rattle.cursor_api.specs.NextGeq.{IsCursorList, IsCursorAt}
use Rattle.scan_plans.specs.Matches.{has_doc, freq_of_doc, score}

-- what a list adds to the score of a document
abbrev pub share : ℕ → List Posting × ℕ → ℕ
share doc e = e.1 * freq_of_doc doc e.0

-- cursors of the same lists are as many
pub as-many : {X : Type 0} (list : X → List Posting) (now old : List X) → map list now ≡ map list old → length now ≡ length old
as-many list now old same = omega (arith, ap length same, length-map now list, length-map old list)

abbrev pub no_posting : Posting
no_posting = record { doc = 0; freq = 0 }

freq-read : (list : List Posting) (k : ℕ) → k < length list → get_or (freqs_of list) k 0 ≡ (get_or list k no_posting).freq
freq-read list k within = get_or-map (λ p. p.freq) list k no_posting 0 within

-- a document that a list has, has a frequency there, and no other has
pub has-freq : (list : List Posting) (d : ℕ) → IsCursorList list → has_doc d list ≡ true → 1 ≤ freq_of_doc d list
has-freq list d good has =
    let at : ℕ = position_or_len (λ p. eqb p.doc d) list in
    let any = Any-from_list_any (λ p. eqb p.doc d) list has in
    elim (cases_lt at (length list)) as (λ _. 1 ≤ freq_of_doc d list) [
      | inl within ↦ (let first : find (λ p. eqb p.doc d) list ≡ Some (get_or list at no_posting) = find_at (λ p. eqb p.doc d) list ∙ slice_get-get_or list at no_posting within in
          let freq : freq_of_doc d list ≡ (get_or list at no_posting).freq = ap (λ o. unwrap_or (option_map (λ p. p.freq) o) 0) first in
          let read = freq-read list at within in
          let some : 1 ≤ get_or (freqs_of list) at 0 = good.not_zero at 0 (omega (arith, length-map list (λ p. p.freq))) in
          omega arith)
      | inr past ↦ (let within = any.2 in
          let fails : eqb (get_or list any.0 any.1).doc d ≡ false = fails_before_first (λ p. eqb p.doc d) list any.0 any.1 (omega arith) in
          absurd (false≢true (sym fails ∙ ap (λ (p : Posting). eqb p.doc d) any.3 ∙ any.4)))
    ]

pub has-no-freq : (list : List Posting) (d : ℕ) → has_doc d list ≡ false → freq_of_doc d list ≡ 0
has-no-freq list d none =
    let at : ℕ = position_or_len (λ p. eqb p.doc d) list in
    elim (cases_lt at (length list)) as (λ _. freq_of_doc d list ≡ 0) [
      | inl within ↦ (let has : has_doc d list ≡ true = list_any_at (λ p. eqb p.doc d) list at no_posting within (passes_at_first (λ p. eqb p.doc d) list no_posting within) in
          absurd (false≢true (sym none ∙ has)))
      | inr past ↦ (let first : find (λ p. eqb p.doc d) list ≡ None = find_at (λ p. eqb p.doc d) list ∙ slice_get_past list at past in
          ap (λ o. unwrap_or (option_map (λ p. p.freq) o) 0) first)
    ]

module _ {X : Type 0} (list : X → List Posting) (place : X → ℕ) where
  -- a cursor that moves leaves the lists as they are
  pub lists-set : (cs : List X) (i : ℕ) (new d : X) → i < length cs → list new ≡ list (get_or cs i d) → map list (set cs i new) ≡ map list cs
  lists-set cs i new d within same =
      map-set list cs i new ∙ ap (set (map list cs) i) (same ∙ sym (get_or-map list cs i d [] within)) ∙ set-get_or (map list cs) i []

  -- what is still to be done, one step on
  pub rest-set : (P : X → Type 0) (cs : List X) (i : ℕ) (new : X) → AllWithin P cs i (length cs) → AllWithin P (set cs i new) (i + 1) (length (set cs i new))
  rest-set P cs i new rest k d from within =
      let l = length-set cs i new in
      let other : k ≢ i = omega arith in
      subst P (sym (get_or-set_other cs i k new d other)) (rest k d (omega arith) (omega arith))

  pub score-step : (doc : ℕ) (cs : List X) (ws : List ℕ) (i sum new : ℕ) (x : X) (w : ℕ) → x ≡ get_or cs i x → w ≡ get_or ws i 0 → i < length cs → i < length ws → sum ≡ sum_by (share doc) (take i (zip (map list cs) ws)) → new ≡ sum + w * freq_of_doc doc (list x)
      → new ≡ sum_by (share doc) (take (i + 1) (zip (map list cs) ws))
  score-step doc cs ws i sum new x w is weight within weighed so_far adds =
      let l = length-map cs list in
      let pair : get_or (zip (map list cs) ws) i ([], 0) ≡ (list x, w) = get_or-zip (map list cs) ws i ([], 0) (omega arith) weighed ∙ ap (λ (l : List Posting). (l, get_or ws i 0)) (get_or-map list cs i x [] within ∙ ap list (sym is)) ∙ ap (λ (n : ℕ). (list x, n)) (sym weight) in
      let read : share doc (get_or (zip (map list cs) ws) i ([], 0)) ≡ w * freq_of_doc doc (list x) = ap (share doc) pair in
      let more = sum_by_more (share doc) (zip (map list cs) ws) i ([], 0) (omega (arith, length-zip (map list cs) ws)) in
      omega arith

  pub score-whole : (doc : ℕ) (cs : List X) (ws : List ℕ) (i sum : ℕ) → length cs ≤ i → sum ≡ sum_by (share doc) (take i (zip (map list cs) ws)) → sum ≡ score (map list cs) ws doc
  score-whole doc cs ws i sum all is = let l = length-map cs list in is ∙ ap (sum_by (share doc)) (take_all i (zip (map list cs) ws) (omega (arith, length-zip (map list cs) ws)))

  pub all-rising : ((c : X) → IsCursorAt (list c) (place c)) → (cs : List X) → All IsCursorList (map list cs)
  all-rising good cs = All-map IsCursorList list cs (λ k d within. (good (get_or cs k d)).well_formed)

-- one more of the lists that give documents their scores
pub scores-step : {X : Type 0} (list : X → List Posting) (place : X → ℕ) (first i count : ℕ) (cs os : List X) (weights old new : List ℕ) (item : X) → map list cs ≡ map list os → i < length cs → i < length weights
    → ((k : ℕ) → k < count → get_or old k 0 ≡ sum_by (share (first + k)) (take i (zip (map list os) weights))) → ((k : ℕ) → k < count → get_or new k 0 ≡ get_or old k 0 + get_or weights i 0 * freq_of_doc (first + k) (list (get_or cs i item)))
    → (k : ℕ) → k < count → get_or new k 0 ≡ sum_by (share (first + k)) (take (i + 1) (zip (map list os) weights))
scores-step list place first i count cs os weights old new item same within weighed so_far adds k inside =
    score-step list place (first + k) cs weights i (get_or old k 0) (get_or new k 0) (get_or cs i item) (get_or weights i 0) (get_or_default cs i item (get_or cs i item) within) refl within weighed
    (so_far k inside ∙ ap (λ (ls : List (List Posting)). sum_by (share (first + k)) (take i (zip ls weights))) (sym same))
    (adds k inside) ∙ ap (λ (ls : List (List Posting)). sum_by (share (first + k)) (take (i + 1) (zip ls weights))) same

module _ (lists : List (List Posting)) (weights : List ℕ) (doc : ℕ) (each : length weights ≡ length lists) where
  score-some : All (λ w. 1 ≤ w) weights → All IsCursorList lists → list_any (has_doc doc) lists ≡ true → 0 < score lists weights doc
  score-some some good is =
      let any = Any-from_list_any (has_doc doc) lists is in
      let k : ℕ = any.0 in
      let within : k < length lists = any.2 in
      let list : List Posting = get_or lists k [] in
      let has : has_doc doc list ≡ true = ap (has_doc doc) (get_or_default lists k [] any.1 within ∙ any.3) ∙ any.4 in
      let freq : 1 ≤ freq_of_doc doc list = has-freq list doc (good k [] within) has in
      let weight : 1 ≤ get_or weights k 0 = some k 0 (omega arith) in
      let pair : share doc (get_or (zip lists weights) k ([], 0)) ≡ get_or weights k 0 * freq_of_doc doc list = ap (share doc) (get_or-zip lists weights k ([], 0) within (omega arith)) in
      let least : share doc (get_or (zip lists weights) k ([], 0)) ≤ sum_by (share doc) (zip lists weights) = get_or-le-sum_by (share doc) (zip lists weights) k ([], 0) (omega (arith, length-zip lists weights)) in
      let product : 1 * 1 ≤ get_or weights k 0 * freq_of_doc doc list = mul-le 1 1 (get_or weights k 0) (freq_of_doc doc list) weight freq in
      let above : 0 < sum_by (share doc) (zip lists weights) = omega arith in
      above

  score-none : list_any (has_doc doc) lists ≡ false → score lists weights doc ≡ 0
  score-none is =
      let nothing : All (λ e. share doc e ≤ 0) (zip lists weights) = λ k d inside.
      let within : k < length lists = omega (arith, length-zip lists weights) in
      let weighed : k < length weights = omega arith in
      let list : List Posting = get_or lists k d.0 in
      let none : has_doc doc list ≡ false = false_from_ne_true (has_doc doc list) (λ has. false≢true (sym is ∙ list_any_at (has_doc doc) lists k d.0 within has)) in
      let freq : get_or weights k d.1 * freq_of_doc doc list ≡ get_or weights k d.1 * 0 = ap (λ (n : ℕ). get_or weights k d.1 * n) (has-no-freq list doc none) in
      let pair : share doc (get_or (zip lists weights) k d) ≡ get_or weights k d.1 * freq_of_doc doc list = ap (share doc) (get_or-zip lists weights k d within weighed) in
      omega arith in
      let total : sum_by (share doc) (zip lists weights) ≤ length (zip lists weights) * 0 = sum_by-le (share doc) 0 (zip lists weights) nothing in
      let zero : sum_by (share doc) (zip lists weights) ≡ 0 = omega arith in
      zero

  -- a document has a score exactly where a list has it
  pub score-found : All (λ w. 1 ≤ w) weights → All IsCursorList lists → (0 < score lists weights doc) ↔ (list_any (has_doc doc) lists ≡ true)
  score-found some good = (
    λ above. true_from_ne_false (list_any (has_doc doc) lists) (λ none. let zero : score lists weights doc ≡ 0 = score-none none in absurd (omega arith)),
    λ is. score-some some good is,
  )
