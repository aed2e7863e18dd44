-- Several indexes: one segment at most is refused, in one way, and none where all are accepted.
use Rattle.std.proofs.Common.{◌≡◌, refl, sym, ◌∙◌, ap, subst, ℕ, suc, ◌+◌, ◌<◌, ◌≤◌, ◌⊎◌, List, [], ◌∷◌, length, take, get_or, inl, inr, arith, IsTrue, Err, zero}
use Rattle.std.proofs.lemmas.List.{length-take, get_or-take, take-take, ext_get_or}
use Rattle.std.proofs.lemmas.List.Elements.{All-nil, All-get_or, All-take}
use Rattle.commands.proofs.Names.{Collection, DepotState, WordsAreRead, OneBrokenCheck, OneIndex, SegRule, G1, G2, G3, Joining, Alike, Wide, CanJoin, FitTogether, terms_in, BrokenIndex, BrokenSegment, UnfitSegment, TooLarge, Outcome, FindsIndexOf, no_collection, AreJoinedTo, FindsSegments, IsFrequentAt, IsUnfit, IndexAt, IndexesAt, IsRefusedAs, index_laws, Laws, ComesTo}
use Rattle.segments.specs.Totals.{AreTooFrequent, SumsFit, total_at}
use Rattle.std.specs.List.{sum_by}
use Rattle.std.proofs.lemmas.List.Sums.{sum_by-take-le, sum_by_more}
use Rattle.commands.proofs.FilesRead.{same_index}

-- ---- collections that fit together

-- the first of them fit together
fits_prefix : (k : ℕ) (cs : List Collection) → FitTogether cs → FitTogether (take k cs)
fits_prefix zero cs fit = grind (arith, All-nil)
fits_prefix (suc k) [] fit = fit
fits_prefix (suc k) (c ∷ cs) fit = record {
  terms = All-take (λ d. length d.lists ≡ length c.lists) (suc k) (c ∷ cs) fit.terms;
  documents = omega (arith, fit.documents, sum_by-take-le (λ (d : Collection). d.documents) (c ∷ cs) (suc k));
}

-- as many terms as the first
terms_taken : (cs : List Collection) (s : ℕ) → 0 < length (take s cs) → terms_in (take s cs) ≡ terms_in cs
terms_taken cs zero some = grind arith
terms_taken cs (suc s) some = grind arith

-- the first of those that can be joined can be
can_prefix : (joining : Joining) (k : ℕ) (cs : List Collection) → CanJoin joining cs → CanJoin joining (take k cs)
can_prefix Alike k cs fit = fits_prefix k cs fit
can_prefix Wide k cs few = omega (arith, few, sum_by-take-le (λ (d : Collection). d.documents) cs k)

-- none of them is unfit behind those before it
fits : (joining : Joining) (cs : List Collection) (s : ℕ) (rule : SegRule) → CanJoin joining cs → s < length cs
    → IsUnfit joining (take s cs) (get_or cs s no_collection) rule → ⊥
fits Alike cs s G1 fit within (some, differ) = differ (All-get_or (λ c. length c.lists ≡ terms_in cs) cs s no_collection within fit.terms ∙ sym (terms_taken cs s some))
fits Alike cs s G2 fit within (same, many) =
    omega (arith, fit.documents, many, sum_by_more (λ (c : Collection). c.documents) cs s no_collection within, sum_by-take-le (λ (c : Collection). c.documents) cs (s + 1))
fits Wide cs s G2 few within many =
    omega (arith, few, many, sum_by_more (λ (c : Collection). c.documents) cs s no_collection within, sum_by-take-le (λ (c : Collection). c.documents) cs (s + 1))
fits Alike cs s G3 fit within unfit = unfit
fits Wide cs s G1 few within unfit = unfit
fits Wide cs s G3 few within unfit = unfit

-- one rule is broken
one_rule : (joining : Joining) (cs : List Collection) (c : Collection) (r q : SegRule) → IsUnfit joining cs c r → IsUnfit joining cs c q → r ≡ q
one_rule Alike cs c G1 G1 x y = refl
one_rule Alike [] c r q x y = grind arith
one_rule Alike (d ∷ cs) c r q x y = grind arith
one_rule Wide cs c r q x y = grind arith

-- ---- lists that are too frequent

-- none is where no list has too great a sum
not_many : (cs : List Collection) (s : ℕ) → SumsFit cs → AreTooFrequent cs s → ⊥
not_many cs s sums many = omega (arith, sums many.term, many.passed, sum_by-take-le (total_at many.term) cs (suc s))

-- the term with one is the least
not_less : (cs : List Collection) (s k : ℕ) (a : AreTooFrequent cs s) (b : AreTooFrequent cs k) → a.term < b.term → ⊥
not_less cs s k a b lt = omega (arith, b.least a.term lt, a.passed, sum_by-take-le (total_at a.term) cs (suc s))

-- and the collection with which its sum is too great is the first
not_before : (cs : List Collection) (s k : ℕ) (a : AreTooFrequent cs s) (b : AreTooFrequent cs k) → a.term ≡ b.term → s < k → ⊥
not_before cs s k a b same lt =
    let part : sum_by (total_at b.term) (take (suc s) (take k cs)) ≤ sum_by (total_at b.term) (take k cs) = sum_by-take-le (total_at b.term) (take k cs) (suc s) in
    let taken : take (suc s) (take k cs) ≡ take (suc s) cs = take-take (suc s) k cs (omega (arith, lt)) in
    omega (arith, b.before, rw same at a.passed, rw taken at part)

one_frequent : (cs : List Collection) (s k : ℕ) → AreTooFrequent cs s → AreTooFrequent cs k → s ≡ k
one_frequent cs s k a b =
    let less : a.term < b.term → ⊥ = not_less cs s k a b in
    let more : b.term < a.term → ⊥ = not_less cs k s b a in
    let same : a.term ≡ b.term = omega arith in
    let first : s < k → ⊥ = not_before cs s k a b same in
    let last : k < s → ⊥ = not_before cs k s b a (sym same) in
    omega arith

-- ---- the first of some files

-- the first of some segments
before : (joining : Joining) (names : List (List ℕ)) (depot : DepotState) (cs : List Collection) (s : ℕ) → FindsSegments joining names depot cs → s ≤ length names
    → FindsSegments joining (take s names) depot (take s cs)
before joining names depot cs s f le = record {
  as_many = omega (arith, length-take s names, length-take s cs, f.as_many);
  each = λ k within.
      let inside : k < s = omega (arith, within, length-take s names) in
      rw (get_or-take s names k [] inside, get_or-take s cs k no_collection inside) (f.each k (omega (arith, inside, le)));
  fit = can_prefix joining s cs f.fit;
}

-- each that is not behind the first k comes behind accepted ones
pub come : (joining : Joining) (names : List (List ℕ)) (depot : DepotState) (cs : List Collection) (k n : ℕ) → FindsSegments joining (take k names) depot cs → n ≤ k + 1 → n ≤ length names
    → ComesTo joining names depot n
come joining names depot cs k n f le few = λ s lt. (
  omega (arith, lt, few),
  (
    take s cs,
    rw (take-take s k names (omega (arith, lt, le))) at (before joining (take k names) depot cs s f (omega (arith, lt, le, few, length-take k names))),
    tt,
  ),
)

-- ---- how a segment is refused

-- it is refused as an index is, or cannot be joined
data Way : Type 0 where
  NoIndex : (outcome : Outcome) → Way
  Unfit : (rule : SegRule) → Way

abbrev outcome_in : Way → ℕ → Outcome
outcome_in (NoIndex (Err (BrokenIndex fault))) s = Err (BrokenSegment fault s)
outcome_in (NoIndex outcome) s = outcome
outcome_in (Unfit rule) s = Err (UnfitSegment rule s)

-- Where all are accepted and a list is too frequent, these are their collections.
frequent : (joining : Joining) (names : List (List ℕ)) (depot : DepotState) (k : ℕ) → IsFrequentAt joining names depot k
    → (cs : List Collection) × FindsSegments joining names depot cs × AreTooFrequent cs k
frequent Alike names depot k at = absurd at
frequent Wide names depot k at = at

-- Where they are joined to a collection, no list is.
none_frequent : (joining : Joining) (cs : List Collection) (c : Collection) (names : List (List ℕ)) (depot : DepotState) (k : ℕ) → AreJoinedTo joining cs c
    → ((ds : List Collection) → FindsSegments joining names depot ds → ds ≡ cs) → IsFrequentAt joining names depot k → ⊥
none_frequent Alike cs c names depot k is same at = at
none_frequent Wide cs c names depot k (sums, is) same (ds, f, many) = not_many cs k sums (subst (λ es. AreTooFrequent es k) (same ds f) many)

-- the collections of which indexes stand there, however they are joined
pub same_segments : OneIndex → WordsAreRead → {one other : Joining} (names : List (List ℕ)) (depot : DepotState) → IsTrue depot.tells → (cs ds : List Collection)
    → FindsSegments one names depot cs → FindsSegments other names depot ds → cs ≡ ds
same_segments index read names depot t cs ds f g =
    ext_get_or no_collection cs ds (f.as_many ∙ sym g.as_many)
    (λ k lt.
    let within : k < length names = omega (arith, lt, f.as_many) in
    same_index index read (get_or names k []) depot t (get_or cs k no_collection) (get_or ds k no_collection) (f.each k within) (g.each k within))

module _ (joining : Joining) (read : WordsAreRead) (check : OneBrokenCheck) (one_index : OneIndex) (depot : DepotState) (t : IsTrue depot.tells) where
  -- ---- one file

  same : (name : List ℕ) (c d : Collection) → FindsIndexOf name depot c → FindsIndexOf name depot d → c ≡ d
  same name = same_index one_index read name depot t

  -- where it is accepted, it is not refused as an index is
  denied : {P : Type 0} (name : List ℕ) (c : Collection) (outcome : Outcome) → FindsIndexOf name depot c → IsRefusedAs (IndexAt name) depot outcome → P
  denied name c outcome found refused = absurd ((index_laws read check name).none depot (t, (c, found)) outcome refused)

  -- such a segment, where those before it have these collections
  abbrev RefusedAs : List Collection → List ℕ → Way → Type 0
  RefusedAs cs name (NoIndex outcome) = IsRefusedAs (IndexAt name) depot outcome
  RefusedAs cs name (Unfit rule) = (c : Collection) × FindsIndexOf name depot c × IsUnfit joining cs c rule

  one_way : (cs : List Collection) (name : List ℕ) (a b : Way) → RefusedAs cs name a → RefusedAs cs name b → a ≡ b
  one_way cs name (NoIndex a) (NoIndex b) x y = ap NoIndex ((index_laws read check name).one depot t a b x y)
  one_way cs name (NoIndex a) (Unfit q) x (c, found, y) = denied name c a found x
  one_way cs name (Unfit r) (NoIndex b) (c, found, x) y = denied name c b found y
  one_way cs name (Unfit r) (Unfit q) (c, found, x) (d, found', y) = ap Unfit (one_rule joining cs c r q x (subst (λ e. IsUnfit joining cs e q) (same name d c found' found) y))

  -- ---- all files

  same_collections : (names : List (List ℕ)) (cs ds : List Collection) → FindsSegments joining names depot cs → FindsSegments joining names depot ds → cs ≡ ds
  same_collections names cs ds f g = same_segments one_index read names depot t cs ds f g

  -- one of them is not refused
  not_refused : (names : List (List ℕ)) (cs ds : List Collection) (s : ℕ) (way : Way) → FindsSegments joining names depot cs → s < length names → FindsSegments joining (take s names) depot ds
      → RefusedAs ds (get_or names s []) way → ⊥
  not_refused names cs ds s (NoIndex outcome) f lt g refused = denied (get_or names s []) (get_or cs s no_collection) outcome (f.each s lt) refused
  not_refused names cs ds s (Unfit rule) f lt g (c, found, unfit) =
      let this : c ≡ get_or cs s no_collection = same (get_or names s []) c (get_or cs s no_collection) found (f.each s lt) in
      let these : ds ≡ take s cs = same_collections (take s names) ds (take s cs) g (before joining names depot cs s f (omega (arith, lt))) in
      fits joining cs s rule f.fit (omega (arith, lt, f.as_many)) (rw (this, these) at unfit)

  -- the segment that is refused
  abbrev Refused : List (List ℕ) → Way → ℕ → Type 0
  Refused names way s = (s < length names) × ((cs : List Collection) × FindsSegments joining (take s names) depot cs × RefusedAs cs (get_or names s []) way)

  abbrev IsPlaced : List (List ℕ) → Outcome → Type 0
  IsPlaced names outcome = (s : ℕ) × (way : Way) × (outcome ≡ outcome_in way s) × Refused names way s

  -- or all are accepted, and a list is too frequent
  abbrev IsFrequent : List (List ℕ) → Outcome → Type 0
  IsFrequent names outcome = (s : ℕ) × (outcome ≡ Err (UnfitSegment G3 s)) × IsFrequentAt joining names depot s

  at_place : (names : List (List ℕ)) (outcome : Outcome) → IsRefusedAs (IndexesAt joining names) depot outcome → IsPlaced names outcome ⊎ IsFrequent names outcome
  at_place names (Err (BrokenSegment fault s)) refused =
      let it = refused t in
      inl (s, NoIndex (Err (BrokenIndex fault)), refl, (it.0, (it.1.0, it.1.1, λ _. it.1.2)))
  at_place names (Err (UnfitSegment G1 s)) refused = inl (s, Unfit G1, refl, refused)
  at_place names (Err (UnfitSegment G2 s)) refused = inl (s, Unfit G2, refl, refused)
  at_place names (Err (UnfitSegment G3 s)) refused = inr (s, refl, refused)
  at_place names (Err (TooLarge slot)) (is, refused) =
      let it = (refused t).1 in
      inl (it.0, NoIndex (Err (TooLarge slot)), refl, (it.1.0, (it.1.1.0, it.1.1.1, (is, λ _. it.1.1.2))))
  at_place names other refused = absurd refused

  -- a later one is not refused where an earlier one is
  not_later : (names : List (List ℕ)) (a b : Way) (s k : ℕ) → Refused names a s → Refused names b k → s < k → ⊥
  not_later names a b s k (lt, (cs, f, why)) (within, (ds, g, other)) less =
      not_refused (take k names) ds cs s a g (omega (arith, length-take k names, within, less))
      (rw (take-take s k names (omega arith)) f) (rw (get_or-take k names s [] less) why)

  -- and one at most is, in one way
  same_way : (names : List (List ℕ)) (a b : Way) (s k : ℕ) → Refused names a s → Refused names b k → outcome_in a s ≡ outcome_in b k
  same_way names a b s k x y =
      let first : s < k → ⊥ = not_later names a b s k x y in
      let last : k < s → ⊥ = not_later names b a k s y x in
      let e : s ≡ k = omega arith in
      let at : Refused names b s = subst (Refused names b) (sym e) y in
      let these : at.1.0 ≡ x.1.0 = same_collections (take s names) at.1.0 x.1.0 at.1.1 x.1.1 in
      let ways : a ≡ b = one_way x.1.0 (get_or names s []) a b x.1.2 (subst (λ ds. RefusedAs ds (get_or names s []) b) these at.1.2) in
      ap (λ way. outcome_in way s) ways ∙ ap (outcome_in b) e

  -- where a list is too frequent, all are accepted
  not_placed : (names : List (List ℕ)) (way : Way) (s k : ℕ) → Refused names way s → IsFrequentAt joining names depot k → ⊥
  not_placed names way s k (lt, (cs, f, why)) at =
      let all = frequent joining names depot k at in
      not_refused names all.0 cs s way all.1 lt f why

  same_frequent : (names : List (List ℕ)) (s k : ℕ) → IsFrequentAt joining names depot s → IsFrequentAt joining names depot k → s ≡ k
  same_frequent names s k x y =
      let a = frequent joining names depot s x in
      let b = frequent joining names depot k y in
      one_frequent a.0 s k a.2 (subst (λ cs. AreTooFrequent cs k) (same_collections names b.0 a.0 b.1 a.1) b.2)

  one_refusal : (names : List (List ℕ)) (a b : Outcome) → IsPlaced names a ⊎ IsFrequent names a → IsPlaced names b ⊎ IsFrequent names b → a ≡ b
  one_refusal names a b (inl p) (inl q) = p.2 ∙ same_way names p.1 q.1 p.0 q.0 p.3 q.3 ∙ sym q.2
  one_refusal names a b (inl p) (inr q) = absurd (not_placed names p.1 p.0 q.0 p.3 q.2)
  one_refusal names a b (inr p) (inl q) = absurd (not_placed names q.1 q.0 p.0 q.3 p.2)
  one_refusal names a b (inr p) (inr q) = p.1 ∙ ap (λ s. Err (UnfitSegment G3 s)) (same_frequent names p.0 q.0 p.2 q.2) ∙ sym q.1

  no_refusal : (names : List (List ℕ)) (cs : List Collection) (c : Collection) (a : Outcome) → FindsSegments joining names depot cs → AreJoinedTo joining cs c
      → IsPlaced names a ⊎ IsFrequent names a → ⊥
  no_refusal names cs c a f is (inl (s, way, so, (lt, (ds, g, why)))) = not_refused names cs ds s way f lt g why
  no_refusal names cs c a f is (inr (k, so, at)) = none_frequent joining cs c names depot k is (λ ds g. same_collections names ds cs g f) at

-- several indexes are refused in one way only, and in none where they are accepted
module _ (joining : Joining) (read : WordsAreRead) (check : OneBrokenCheck) (index : OneIndex) (names : List (List ℕ)) where
  pub segments_laws : Laws (IndexesAt joining names)
  segments_laws = record {
    one = λ d t a b x y.
        one_refusal joining read check index d t names a b (at_place joining read check index d t names a x) (at_place joining read check index d t names b y);
    none = λ d stands a x.
        no_refusal joining read check index d stands.0 names stands.1.1.0 stands.1.0 a stands.1.1.1 stands.1.1.2
        (at_place joining read check index d stands.0 names a x);
  }
