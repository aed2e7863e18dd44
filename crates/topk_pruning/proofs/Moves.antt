-- Lemmas on cursors that move, and on the first document of some lists.
use Rattle.std.proofs.Common.{◌≡◌, refl, sym, ap, inl, inr, ◌∙◌, ℕ, ◌+◌, ◌<◌, ◌≤◌, Bool, true, false, min, List, [], ◌++◌, map, take, set, length, get_or, Option, Some, None, arith}
use Rattle.std.specs.Prelude.{◌||◌, option_to_list}
use Rattle.std.specs.List.{All, reduce}
use Rattle.std.specs.Option.{IfSome}
use Rattle.std.proofs.lemmas.Bool.{cases_lt, or_from, or_left, or_right}
use Rattle.std.proofs.lemmas.List.{map-set, set-get_or, get_or-map, length-map}
use Rattle.std.proofs.lemmas.List.Folds.{list_any_more}
use Rattle.collection_model.specs.Collection.{Posting}
use Rattle.cursor_api.specs.NextGeq.{IsCursorAt}
use Rattle.scan_plans.specs.Matches.{has_doc}
use Rattle.scan_plans.specs.Scan.{doc_at, StandsFrom, HasPassed}
use Rattle.scan_plans.specs.Skips.{HasWhereItStands, NothingBetween, NothingLeft}
use Rattle.topk_pruning.specs.declared.term.Term.{Term}
use Rattle.topk_pruning.specs.Terms.{list_of, in_lists, IsFirstDoc}

module _ {X : Type 0} (list : X → List Posting) (place : X → ℕ) where
  -- a cursor that moves leaves the lists as they are
  pub lists-set : (cs : List X) (i : ℕ) (new d : X) → i < length cs → list new ≡ list (get_or cs i d) → map list (set cs i new) ≡ map list cs
  lists-set cs i new d within same =
      map-set list cs i new ∙ ap (set (map list cs) i) (same ∙ sym (get_or-map list cs i d [] within)) ∙ set-get_or (map list cs) i []

  -- the list of a cursor among the lists
  pub list-read : (cs : List X) (lists : List (List Posting)) (i : ℕ) (d : X) → map list cs ≡ lists → i < length cs → list (get_or cs i d) ≡ get_or lists i []
  list-read cs lists i d same within = sym (get_or-map list cs i d [] within) ∙ ap (λ (ls : List (List Posting)). get_or ls i []) same

  -- the list of a term is that of a cursor
  pub term-inside : (cs : List X) (lists : List (List Posting)) (terms : List Term) (i : ℕ) (t : Term) → map list cs ≡ lists → All (λ t. t.list < length lists) terms → i < length terms → (get_or terms i t).list < length cs
  term-inside cs lists terms i t same all within =
      let here = all i t within in
      let count = ap length same in
      let l = length-map cs list in
      omega arith

  pub later-passed : (cs : List X) (d e : ℕ) → d ≤ e → All (λ c. HasPassed d (list c) (place c)) cs → All (λ c. HasPassed e (list c) (place c)) cs
  later-passed cs d e le all k x within = record { passed = λ j lt. let h = (all k x within).passed j lt in omega arith }

  -- all cursors at their start
  pub starts-passed : (cs : List X) → All (λ c. place c ≡ 0) cs → All (λ c. HasPassed 0 (list c) (place c)) cs
  starts-passed cs start k d within = let e = start k d within in record { passed = λ j lt. absurd (omega arith) }

-- ---- what a cursor tells
pub tell-none : NothingBetween → NothingLeft → (l : List Posting) (from place : ℕ) (o : Option ℕ) → IsCursorAt l place → StandsFrom from l place → o ≡ doc_at l place → (e : ℕ) → from ≤ e → IfSome o (λ n. e < n) → has_doc e l ≡ false
tell-none between left l from place None good stands is e after lt = left l from place e stands (sym is) after
tell-none between left l from place (Some n) good stands is e after lt = between l from place n e good stands (sym is) after lt

pub tell-has : HasWhereItStands → (l : List Posting) (from place : ℕ) (o : Option ℕ) → IsCursorAt l place → StandsFrom from l place → o ≡ doc_at l place → IfSome o (λ n. (from ≤ n) × (has_doc n l ≡ true))
tell-has law l from place None good stands is = tt
tell-has law l from place (Some n) good stands is = let h = law l from n place good stands (sym is) in (h.0, h.1)

-- ---- the first document
-- the lesser of two numbers, or the one that there is
abbrev earliest : Option ℕ → Option ℕ → Option ℕ
earliest a b = reduce min (option_to_list a ++ option_to_list b)

merge : (A B C : ℕ → Bool) (from : ℕ) → ((e : ℕ) → C e ≡ (A e || B e)) → (least o : Option ℕ)
    → ((e : ℕ) → from ≤ e → IfSome least (λ n. e < n) → A e ≡ false) → IfSome least (λ n. (from ≤ n) × (A n ≡ true))
    → ((e : ℕ) → from ≤ e → IfSome o (λ n. e < n) → B e ≡ false) → IfSome o (λ n. (from ≤ n) × (B n ≡ true))
    → ((e : ℕ) → from ≤ e → IfSome (earliest least o) (λ n. e < n) → C e ≡ false) × IfSome (earliest least o) (λ n. (from ≤ n) × (C n ≡ true))
merge A B C from more None None a-none a-has b-none b-has = (λ e f lt. more e ∙ or_from (A e) (B e) (a-none e f tt) (b-none e f tt), tt)
merge A B C from more None (Some n) a-none a-has b-none b-has = (λ e f lt. more e ∙ or_from (A e) (B e) (a-none e f tt) (b-none e f lt), (b-has.0, more n ∙ or_right (A n) (B n) b-has.1))
merge A B C from more (Some m) None a-none a-has b-none b-has = (λ e f lt. more e ∙ or_from (A e) (B e) (a-none e f lt) (b-none e f tt), (a-has.0, more m ∙ or_left (A m) (B m) a-has.1))
merge A B C from more (Some m) (Some n) a-none a-has b-none b-has =
    let low = a-has.0 in
    let low-too = b-has.0 in
    let least : ℕ = min m n in (
      λ e f lt. let below : e < min m n = lt in more e ∙ or_from (A e) (B e) (a-none e f (omega arith)) (b-none e f (omega arith)),
      elim (cases_lt m n) as (λ _. (from ≤ min m n) × (C (min m n) ≡ true)) [
        | inl lt ↦ (let is : min m n ≡ m = omega arith in (omega arith, ap C is ∙ more m ∙ or_left (A m) (B m) a-has.1))
        | inr ge ↦ (let is : min m n ≡ n = omega arith in (omega arith, ap C is ∙ more n ∙ or_right (A n) (B n) b-has.1))
      ],
    )

-- one more term
pub first-more : (lists : List (List Posting)) (terms : List Term) (i from : ℕ) (t : Term) (least o : Option ℕ) → i < length terms
    → ((e : ℕ) → from ≤ e → IfSome o (λ n. e < n) → has_doc e (list_of lists (get_or terms i t)) ≡ false) → IfSome o (λ n. (from ≤ n) × (has_doc n (list_of lists (get_or terms i t)) ≡ true))
    → IsFirstDoc lists (take i terms) from least → IsFirstDoc lists (take (i + 1) terms) from (earliest least o)
first-more lists terms i from t least o within none has first =
    let m = merge (λ e. in_lists lists e (take i terms)) (λ e. has_doc e (list_of lists (get_or terms i t))) (λ e. in_lists lists e (take (i + 1) terms)) from
    (λ e. list_any_more (λ t. has_doc e (list_of lists t)) terms i t within) least o first.none_before first.one_has_it none has in
    record { none_before = m.0; one_has_it = m.1 }

pub first-of_none : (lists : List (List Posting)) (from : ℕ) → IsFirstDoc lists [] from None
first-of_none lists from = record { none_before = λ d f t. refl; one_has_it = tt }
