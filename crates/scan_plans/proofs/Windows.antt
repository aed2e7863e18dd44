-- Lemmas on windows of documents.
use Rattle.std.proofs.Common.{◌≡◌, refl, sym, ap, inl, inr, ◌∙◌, subst, ℕ, ◌+◌, ◌-◌, ◌*◌, ◌<◌, ◌≤◌, ◌≢◌, ◌||◌, Bool, List, [], ◌++◌, length, get_or, set, take, drop, map, arith}
use Rattle.std.specs.List.{All, list_any, sum_by, zip}
use Rattle.std.proofs.lemmas.Bool.{cases_lt}
use Rattle.std.proofs.lemmas.List.{get_or_default, length-map, length-set, length-take-le, length-drop, get_or-map, get_or-set_same, get_or-set_other, get_or_append_left, get_or-append_right, get_or-take, get_or-drop}
use Rattle.std.proofs.lemmas.List.Folds.{list_any_more}
use borrow.Rule.Slice.PartMut.{put_mid, same_len_mid}
use Rattle.collection_model.specs.Collection.{Posting}
use Rattle.scan_plans.specs.Matches.{has_doc, freq_of_doc}
use Rattle.scan_plans.proofs.Steps.{share, score-step}

-- one more of the lists that may have a document
pub any-step : {X : Type 0} (list : X → List Posting) (doc i : ℕ) (cs : List X) (lists : List (List Posting)) (d : X) (old new : Bool) → map list cs ≡ lists → i < length cs → old ≡ list_any (has_doc doc) (take i lists) → new ≡ (old || has_doc doc (list (get_or cs i d)))
    → new ≡ list_any (has_doc doc) (take (i + 1) lists)
any-step list doc i cs lists d old new same within so_far adds =
    let count = ap length same in
    let mapped = length-map cs list in
    let read : get_or lists i [] ≡ list (get_or cs i d) = ap (λ (ls : List (List Posting)). get_or ls i []) (sym same) ∙ get_or-map list cs i d [] within in
    adds ∙ ap (λ (b : Bool). b || has_doc doc (list (get_or cs i d))) so_far
    ∙ ap (λ (l : List Posting). list_any (has_doc doc) (take i lists) || has_doc doc l) (sym read)
    ∙ sym (list_any_more (has_doc doc) lists i [] (omega arith))

-- one more of the lists that give documents their scores
pub scores-step : {X : Type 0} (list : X → List Posting) (place : X → ℕ) (first i count : ℕ) (cs os : List X) (weights old new : List ℕ) (item : X) → map list cs ≡ map list os → i < length cs → i < length weights
    → ((k : ℕ) → k < count → get_or old k 0 ≡ sum_by (share (first + k)) (take i (zip (map list os) weights))) → ((k : ℕ) → k < count → get_or new k 0 ≡ get_or old k 0 + get_or weights i 0 * freq_of_doc (first + k) (list (get_or cs i item)))
    → (k : ℕ) → k < count → get_or new k 0 ≡ sum_by (share (first + k)) (take (i + 1) (zip (map list os) weights))
scores-step list place first i count cs os weights old new item same within weighed so_far adds k inside =
    score-step list place (first + k) cs weights i (get_or old k 0) (get_or new k 0) (get_or cs i item) (get_or weights i 0) (get_or_default cs i item (get_or cs i item) within) refl within weighed
    (so_far k inside ∙ ap (λ (ls : List (List Posting)). sum_by (share (first + k)) (take i (zip ls weights))) (sym same))
    (adds k inside) ∙ ap (λ (ls : List (List Posting)). sum_by (share (first + k)) (take (i + 1) (zip ls weights))) same

-- ---- a list of which a piece was written
module _ {V : Type 0} (at n k : ℕ) (now piece : List V) (d : V) where
  prefix-long : at ≤ length now → length (take at now) ≡ at
  prefix-long within = length-take-le at now within

  piece-before : k < at → at ≤ length now → get_or (put_mid at n now piece) k d ≡ get_or now k d
  piece-before lt within = get_or_append_left (take at now) (piece ++ drop n (drop at now)) d k (omega (arith, prefix-long within)) ∙ get_or-take at now k d lt

  piece-inside : at ≤ k → k < at + length piece → at ≤ length now → get_or (put_mid at n now piece) k d ≡ get_or piece (k - at) d
  piece-inside from lt within =
      get_or-append_right (take at now) (piece ++ drop n (drop at now)) at k d (prefix-long within) from
      ∙ get_or_append_left piece (drop n (drop at now)) d (k - at) (omega arith)

  piece-behind : at + n ≤ k → length piece ≡ n → at ≤ length now → get_or (put_mid at n now piece) k d ≡ get_or now k d
  piece-behind from long within =
      let place : at + (n + (k - at - n)) ≡ k = omega arith in
      get_or-append_right (take at now) (piece ++ drop n (drop at now)) at k d (prefix-long within) (omega arith)
      ∙ get_or-append_right piece (drop n (drop at now)) n (k - at) d long (omega arith)
      ∙ get_or-drop n (drop at now) (k - at - n) d
      ∙ get_or-drop at now (n + (k - at - n)) d
      ∙ ap (λ (j : ℕ). get_or now j d) place

-- ---- a window that is taken back place by place: nothing is left before `at`, and from there on what was there
pub record IsCleared {V : Type 0} (none : V) (at : ℕ) (old now : List V) : Type 0 where
  pub count : length now ≡ length old
  pub done : (k : ℕ) → k < at → get_or now k none ≡ none
  pub rest : (k : ℕ) → at ≤ k → get_or now k none ≡ get_or old k none

module _ {V : Type 0} (none : V) (old : List V) where
  pub cleared-none : IsCleared none 0 old old
  cleared-none = record { count = refl; done = λ k lt. absurd (omega arith); rest = λ k le. refl }

  pub cleared-more : (at : ℕ) (now : List V) → at < length old → IsCleared none at old now → IsCleared none (at + 1) old (set now at none)
  cleared-more at now within so_far =
      let l = length-set now at none in
      let count = so_far.count in
      record {
        count = omega arith;
        done = λ k lt. elim (cases_lt k at) as (λ _. get_or (set now at none) k none ≡ none) [
          | inl before ↦ (let other : k ≢ at = omega arith in get_or-set_other now at k none none other ∙ so_far.done k before)
          | inr after ↦ (let same : at ≡ k = omega arith in subst (λ (j : ℕ). get_or (set now at none) j none ≡ none) same (get_or-set_same now at none none (omega arith)))
        ];
        rest = λ k le. let other : k ≢ at = omega arith in get_or-set_other now at k none none other ∙ so_far.rest k (omega arith);
      }

  -- places at which there was nothing
  pub cleared-skip : (at to : ℕ) (now : List V) → ((k : ℕ) → at ≤ k → k < to → get_or old k none ≡ none) → at ≤ to → IsCleared none at old now → IsCleared none to old now
  cleared-skip at to now nothing le so_far = record {
    count = so_far.count;
    done = λ k lt. elim (cases_lt k at) as (λ _. get_or now k none ≡ none) [ inl before ↦ so_far.done k before | inr after ↦ so_far.rest k after ∙ nothing k after lt ];
    rest = λ k from. so_far.rest k (omega arith);
  }

  -- a piece that is taken back at once
  pub cleared-piece : (at n to : ℕ) (now piece : List V) → at + n ≡ to → to ≤ length old → length piece ≡ n → ((k : ℕ) → k < n → get_or piece k none ≡ none) → IsCleared none at old now → IsCleared none to old (put_mid at n now piece)
  cleared-piece at n to now piece end within long nothing so_far =
      let count = so_far.count in
      record {
        count = same_len_mid at n now piece (long ∙ sym (length-take-le n (drop at now) (omega (arith, length-drop at now)))) ∙ count;
        done = λ k lt. elim (cases_lt k at) as (λ _. get_or (put_mid at n now piece) k none ≡ none) [
          | inl early ↦ piece-before at n k now piece none early (omega arith) ∙ so_far.done k early
          | inr late ↦ piece-inside at n k now piece none late (omega arith) (omega arith) ∙ nothing (k - at) (omega arith)
        ];
        rest = λ k from. piece-behind at n k now piece none (omega arith) long (omega arith) ∙ so_far.rest k (omega arith);
      }

  pub cleared-all : (reached : ℕ) (now : List V) → ((k : ℕ) → reached ≤ k → k < length old → get_or old k none ≡ none) → IsCleared none reached old now → All (λ v. v ≡ none) now
  cleared-all reached now behind so_far k d within =
      let count = so_far.count in
      get_or_default now k d none within ∙ elim (cases_lt k reached) as (λ _. get_or now k none ≡ none) [
        | inl before ↦ so_far.done k before
        | inr after ↦ so_far.rest k after ∙ behind k after (omega arith)
      ]
