-- Lemmas on new ids.
use Rattle.std.proofs.Common.{◌≡◌, ◌≢◌, sym, ap, inl, inr, ◌∙◌, subst, ℕ, ◌+◌, ◌<◌, eqb, List, map, length, get_or, arith}
use Rattle.std.specs.Prelude.{AllPairs}
use Rattle.std.specs.List.{All}
use Rattle.std.specs.List.Sorted.{IsStrictlyIncreasing}
use Rattle.std.proofs.Math.ListN.{set}
use Rattle.std.proofs.lemmas.Bool.{cases_Bool, cases_lt, eqb-true, eqb-false, eq-eqb, ne_eqb}
use Rattle.std.proofs.lemmas.List.{get_or_default, get_or-map, get_or-set_same, get_or-set_other, length-map}
use Rattle.std.proofs.lemmas.List.Elements.{All-from_get_or}
use Rattle.std.proofs.lemmas.List.Kept.{AllPairs-from_increasing}
use Rattle.remap.specs.NewIds.{AreNewIds, new_id, Undoes}

-- a new id is below the number of documents
pub new-id_below : (ids : List ℕ) (d : ℕ) → AreNewIds ids → d < length ids → new_id ids d < length ids
new-id_below ids d are within = are.below d 0 within

-- each number below it is the new id of a document
pub has-document : (ids : List ℕ) (e : ℕ) → AreNewIds ids → e < length ids → (d : ℕ) × (d < length ids) × (new_id ids d ≡ e)
has-document ids e are within = let c = are.each e within in (c.0, c.1, get_or_default ids c.0 0 e c.1 ∙ c.2)

-- new ids are the same exactly where the documents are
pub same-ids : (ids : List ℕ) (a b : ℕ) → AreNewIds ids → a < length ids → b < length ids → eqb (new_id ids a) (new_id ids b) ≡ eqb a b
same-ids ids a b are a_in b_in = elim (cases_Bool (eqb a b)) as (λ _. eqb (new_id ids a) (new_id ids b) ≡ eqb a b) [
  | inl same ↦ eq-eqb (new_id ids a) (new_id ids b) (ap (new_id ids) (eqb-true a b same)) ∙ sym same
  | inr other ↦ ne_eqb (new_id ids a) (new_id ids b) (λ e. eqb-false a b other (are.once a b a_in b_in e)) ∙ sym other
]

-- the new ids of documents that rise are not the same
pub apart-new_ids : (ids docs : List ℕ) → AreNewIds ids → All (λ d. d < length ids) docs → IsStrictlyIncreasing docs → AllPairs (λ a b. a ≢ b) (map (new_id ids) docs)
apart-new_ids ids docs are below rising i j d lt within same =
    let l = length-map docs (new_id ids) in
    let a = get_or-map (new_id ids) docs i 0 d (omega arith) in
    let b = get_or-map (new_id ids) docs j 0 d (omega arith) in
    let less = AllPairs-from_increasing docs rising i j 0 lt (omega arith) in
    let docs_same : get_or docs i 0 ≡ get_or docs j 0 = are.once (get_or docs i 0) (get_or docs j 0) (below i 0 (omega arith)) (below j 0 (omega arith)) (sym a ∙ same ∙ b) in
    omega arith

-- one more value that is written at the new id of its document
pub scattered-more : (ids : List ℕ) (f : ℕ → ℕ) (old new : List ℕ) (d v : ℕ) → AreNewIds ids → d < length ids → length old ≡ length ids → new ≡ set old (get_or ids d 0) v → v ≡ f d
    → ((k : ℕ) → k < d → get_or old (get_or ids k 0) 0 ≡ f k) → (k : ℕ) → k < d + 1 → get_or new (get_or ids k 0) 0 ≡ f k
scattered-more ids f old new d v are d_in count is value before k below =
    let at : (e : ℕ) → get_or new e 0 ≡ get_or (set old (get_or ids d 0) v) e 0 = λ e. ap (λ (l : List ℕ). get_or l e 0) is in
    elim (cases_lt k d) as (λ _. get_or new (get_or ids k 0) 0 ≡ f k) [
      | inl lt ↦
          (let other : get_or ids k 0 ≢ get_or ids d 0 = λ same. (let e : k ≡ d = are.once k d (omega arith) d_in same in absurd (omega arith)) in
          at (get_or ids k 0) ∙ get_or-set_other old (get_or ids d 0) (get_or ids k 0) v 0 other ∙ before k lt)
      | inr past ↦
          (let e : d ≡ k = omega arith in
          let in_old = new-id_below ids d are d_in in
          let here : get_or new (get_or ids d 0) 0 ≡ f d = at (get_or ids d 0) ∙ get_or-set_same old (get_or ids d 0) v 0 (omega arith) ∙ value in
          subst (λ (k : ℕ). get_or new (get_or ids k 0) 0 ≡ f k) e here)
    ]

-- what undoes an order is an order
pub undoing-new_ids : (ids back : List ℕ) → AreNewIds ids → Undoes ids back → AreNewIds back
undoing-new_ids ids back are undoes =
    let count = undoes.count in
    let of = λ (k : ℕ) (within : k < length ids). has-document ids k are within in
    let back_of : (k : ℕ) (within : k < length ids) → get_or back k 0 ≡ (of k within).0 = λ k within.
    ap (λ (e : ℕ). get_or back e 0) (sym (of k within).2) ∙ undoes.back_again (of k within).0 (of k within).1 in
    record {
      below = All-from_get_or (λ e. e < length back) back 0 (λ k within.
          let b = back_of k (omega arith) in
          let w = (of k (omega arith)).1 in
          omega arith);
      each = λ e within.
          let at = new-id_below ids e are (omega arith) in
          (new_id ids e, omega arith, get_or_default back (new_id ids e) e 0 (omega arith) ∙ undoes.back_again e (omega arith));
      once = λ a b a_in b_in same.
          let p = of a (omega arith) in
          let q = of b (omega arith) in
          let e : p.0 ≡ q.0 = sym (back_of a (omega arith)) ∙ same ∙ back_of b (omega arith) in
          sym p.2 ∙ ap (new_id ids) e ∙ q.2;
    }
