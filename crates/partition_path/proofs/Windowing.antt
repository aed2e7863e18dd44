-- Lemmas on the parts that are tried from one place, window by window.
use Rattle.std.proofs.Common.{◌≡◌, refl, sym, subst, ◌∙◌, ℕ, suc, ◌+◌, ◌*◌, ◌^◌, ◌-◌, ◌≤◌, ◌<◌, ◌⊎◌, inl, inr, max, Bool, true, false, Option, Some, None, List, [], ◌∷◌, length, get_or, set, arith, get_or-set_same, get_or-set_other}
use Rattle.std.specs.Prelude.{find, nat_le, IsSome, IsSomeAnd, IfSome, unwrap_or}
use Rattle.std.proofs.lemmas.Bool.{leb-true, cases_lt, cases_eq}
use Rattle.std.proofs.lemmas.List.{length-set}
use Rattle.std.proofs.lemmas.Nat.{mul-le}
use Rattle.std.specs.List.Sorted.{IsStrictlyIncreasing}
use Rattle.part_cost.specs.Bounds.{Cover}
use Rattle.part_cost.proofs.Numbers.{rises}
use Rattle.cost_windows.specs.EdgeFacts.{Knows}
use Rattle.cost_windows.specs.declared.edge.Edge.{Edge}
use Rattle.partition_path.specs.Tables.{Table, AreTried, AreRoutes, IsAnswered, IsCheapWay, IsSettled, StandCheap, cost_to, unreached}
use Rattle.partition_path.specs.Trying.{CutsCostACharge}
use Rattle.partition_path.proofs.Offering.{same-cost, tried-none, tried-more, later-routes}

-- the bound that is found is one of the list
find-test : (c b : ℕ) (t : Bool) (bs : List ℕ) (P : ℕ → Type 0) → nat_le c b ≡ t → IsSomeAnd (find (λ x. nat_le c x) (b ∷ bs)) P → ((c ≤ b) × P b) ⊎ IsSomeAnd (find (λ x. nat_le c x) bs) P
find-test c b true bs P e h = inl (leb-true _ _ e, rw e at h)
find-test c b false bs P e h = inr (rw e at h)

pub find-place : (c : ℕ) (bs : List ℕ) (P : ℕ → Type 0) → IsSomeAnd (find (λ x. nat_le c x) bs) P → (m : ℕ) × (m < length bs) × (c ≤ get_or bs m 0) × P (get_or bs m 0)
find-place c [] P h = elim h [ ]
find-place c (b ∷ bs) P h =
    elim (find-test c b (nat_le c b) bs P refl h) [
      | inl here ↦ (0, omega arith, here.0, here.1)
      | inr later ↦ let more = find-place c bs P later in (suc more.0, omega (arith, more.1), more.2, more.3)
    ]

-- two facts on what is known
pub both-known : (o : Option ℕ) (P Q : ℕ → Type 0) → IsSome o → IfSome o P → IfSome o Q → (c : ℕ) × P c × Q c
both-known None P Q s p q = absurd cc
both-known (Some c) P Q s p q = (c, p, q)

pub some-known : (o : Option ℕ) (c : ℕ) (P : ℕ → Type 0) → IfSome o P → o ≡ Some c → P c
some-known o c P h e = subst (λ (x : Option ℕ). IfSome x P) e h

pub none-some : (c : ℕ) → None ≡ Some c → ⊥
none-some c h = cc

pub some-none : (o : Option ℕ) → IsSome o → o ≡ None → ⊥
some-none None s e = absurd cc
some-none (Some c) s e = cc

-- what stands for an option is no more than what it may be
next-under : (o : Option ℕ) (most : ℕ) (P : ℕ → Type 0) → ((c : ℕ) → P c → c ≤ most) → IfSome o P → unwrap_or o 0 ≤ most
next-under None most P under h = omega arith
next-under (Some c) most P under h = under c h

-- bounds that rise never fall
pub never-fall : (bounds : List ℕ) → IsStrictlyIncreasing bounds → (j k : ℕ) → j ≤ k → k < length bounds → get_or bounds j 0 ≤ get_or bounds k 0
never-fall bounds up j k l h = omega (arith, rises bounds up j k l h)

-- there is room for two more allowed parts, for as many numbers as a sequence has
pub room_within : (limit n i cost : ℕ) → limit < 2 ^ 32 → n < 2 ^ 32 → i < n → cost ≤ limit * i → cost + 2 * limit < unreached
room_within limit n i cost small few l c =
    let most = mul-le limit (i + 2) (2 ^ 32 - 1) (2 ^ 32) (omega (arith, small)) (omega (arith, l, few)) in
    omega (arith, most, c)

-- the later of two places costs no more than both may
pub later-cheap : (t : Table) (a b most : ℕ) → cost_to t a ≤ most → cost_to t b ≤ most → cost_to t (max a b) ≤ most
later-cheap t a b most x y = elim (cases_lt a b) [
  | inl less ↦ let same : max a b ≡ b = omega (arith, less) in subst (λ (z : ℕ). cost_to t z ≤ most) (sym same) y
  | inr more ↦ let same : max a b ≡ a = omega (arith, more) in subst (λ (z : ℕ). cost_to t z ≤ most) (sym same) x
]

-- windows stand where it is cheap also where places became cheaper, and where more is spent before them
pub stand-cheaper : {bounds : List ℕ} {n here : ℕ} {old : Table} {stands : List ℕ} (more : ℕ) (new : Table) → here ≤ more → ((j : ℕ) → cost_to new j ≤ cost_to old j) → StandCheap bounds n here old stands → StandCheap bounds n more new stands
stand-cheaper {bounds} {n} {here} {old} {stands} more new l cheaper s =
    record {
      count = s.count;
      within = s.within;
      cheap = λ k b. let c = s.cheap k b in let d = cheaper (get_or stands k 0) in omega (arith, c, d, l);
    }

-- The windows before k are looked at: up to the edge each part is answered, and the part that is one number longer is above their bounds.
pub record Windowed (limit : ℕ) (cost : ℕ → ℕ → ℕ) (bounds : List ℕ) (n i : ℕ) (old t : Table) (k : ℕ) (edge : Edge) (stands : List ℕ) : Type 0 where
  pub tried : AreTried limit cost n i old t
  pub knows : Knows cost n i edge
  pub stand : StandCheap bounds n (cost_to old i) t stands
  pub cheap : edge.end < n → 100 * cost_to t edge.end ≤ 100 * cost_to old i + 103 * cost i (edge.end + 1)
  pub first : edge.next ≡ None → edge.end < n → edge.end ≡ i
  pub answered : (e : ℕ) → i < e → e ≤ edge.end → IsAnswered limit cost i (cost_to old i) t e
  pub passed : edge.end < n → (m : ℕ) → m < k → get_or bounds m 0 < cost i (edge.end + 1)

module _ (limit : ℕ) (cost : ℕ → ℕ → ℕ) (bounds : List ℕ) (n i : ℕ) (old : Table) where
  pub windowed-none : (stands : List ℕ) (edge : Edge) → edge ≡ record { end = i; cost = None; next = None } → i < n → AreRoutes limit cost n i old → StandCheap bounds n (cost_to old i) old stands → Windowed limit cost bounds n i old old 0 edge stands
  windowed-none stands edge e below routes s =
      subst (λ (x : Edge). Windowed limit cost bounds n i old old 0 x stands) (sym e)
      (record {
        tried = tried-none (later-routes routes);
        knows = record { after = omega arith; within = omega (arith, below); known = tt; next = tt };
        stand = s;
        cheap = λ b. omega arith;
        first = λ x b. refl;
        answered = λ f a b. absurd (omega (arith, a, b));
        passed = λ b m l. absurd (omega (arith, l));
      })

  -- the route to the edge costs little
  pub edge-cheap : (t : Table) (k : ℕ) (edge : Edge) (stands : List ℕ) → Windowed limit cost bounds n i old t k edge stands → edge.end < n → 100 * cost_to t edge.end ≤ 100 * cost_to old i + 103 * unwrap_or edge.next 0
  edge-cheap t k edge stands w below = priced edge.next refl
    where
      priced : (o : Option ℕ) → edge.next ≡ o → 100 * cost_to t edge.end ≤ 100 * cost_to old i + 103 * unwrap_or edge.next 0
      priced None none =
          let at : edge.end ≡ i = w.first none below in
          let same : cost_to t edge.end ≡ cost_to old i = subst (λ (x : ℕ). cost_to t x ≡ cost_to old i) (sym at) (same-cost old t i (w.tried.same i (omega arith))) in
          omega (arith, same)
      priced (Some c) some =
          let known = some-known edge.next c (λ x. (edge.end < n) × (x ≡ cost i (edge.end + 1))) w.knows.next some in
          let is : unwrap_or edge.next 0 ≡ c = subst (λ (o : Option ℕ). unwrap_or o 0 ≡ c) (sym some) refl in
          omega (arith, w.cheap below, known.1, is)

  -- Windows are passed whose bound the next part is above.
  pub windowed-passed : (t : Table) (k : ℕ) (edge : Edge) (stands : List ℕ) → Windowed limit cost bounds n i old t k edge stands → (l : ℕ) → k ≤ l → (edge.end < n → IsSome edge.next) → IfSome edge.next (λ c. (m : ℕ) → k ≤ m → m < l → get_or bounds m 0 < c)
      → Windowed limit cost bounds n i old t l edge stands
  windowed-passed t k edge stands w l more known passed =
      record {
        tried = w.tried;
        knows = w.knows;
        stand = w.stand;
        cheap = w.cheap;
        first = w.first;
        answered = w.answered;
        passed = λ b m a. elim (cases_lt m k) [
          | inl earlier ↦ w.passed b m earlier
          | inr later ↦
              let next = both-known edge.next (λ c. (x : ℕ) → k ≤ x → x < l → get_or bounds x 0 < c) (λ c. (edge.end < n) × (c ≡ cost i (edge.end + 1))) (known b) passed w.knows.next in
              omega (arith, next.1 m later a, next.2.1)
        ];
      }

  module _ (rising : (j k : ℕ) → j ≤ k → k < length bounds → get_or bounds j 0 ≤ get_or bounds k 0) (charge : ℕ) (cover : Cover charge limit bounds) (monotone : (h i j k : ℕ) → h ≤ i → i < j → j ≤ k → k ≤ n → cost i j ≤ cost h k) (least : (i j : ℕ) → i < j → j ≤ n → charge ≤ cost i j) where
    -- A part behind the edge is allowed only under a bound that was not passed.
    open-bound : (t : Table) (k : ℕ) (edge : Edge) (stands : List ℕ) → Windowed limit cost bounds n i old t k edge stands → (e : ℕ) → edge.end < e → e ≤ n → cost i e ≤ limit → (m : ℕ) × (m < length bounds) × (k ≤ m) × (100 * get_or bounds m 0 ≤ 103 * cost i e)
    open-bound t k edge stands w e behind within allowed =
        let start : i < e = omega (arith, behind, w.knows.after) in
        let found = find-place (cost i e) bounds (λ b. 100 * b ≤ 103 * cost i e) (cover (cost i e) (least i e start within) allowed) in
        let m = found.0 in
        let longer = monotone i i (edge.end + 1) e (omega arith) (omega (arith, w.knows.after)) (omega (arith, behind)) within in
        elim (cases_lt m k) [
          | inl before ↦ absurd (omega (arith, w.passed (omega (arith, behind, within)) m before, longer, found.2))
          | inr free ↦ (m, found.1, free, found.3)
        ]

    -- what is known of the next part's cost is no more than what each part behind the edge costs
    next-least : (edge : Edge) → Knows cost n i edge → (e : ℕ) → edge.end < e → e ≤ n → unwrap_or edge.next 0 ≤ cost i e
    next-least edge knows e behind within = next-under edge.next (cost i e) (λ c. (edge.end < n) × (c ≡ cost i (edge.end + 1))) under knows.next
      where
        under : (c : ℕ) → (edge.end < n) × (c ≡ cost i (edge.end + 1)) → c ≤ cost i e
        under c known = omega (arith, known.1, monotone i i (edge.end + 1) e (omega arith) (omega (arith, knows.after)) (omega (arith, behind)) within)

    -- one more window looked at
    pub windowed-more : (t : Table) (k : ℕ) (edge : Edge) (stands : List ℕ) → Windowed limit cost bounds n i old t k edge stands → k < length bounds → (new : Table) (longer : Edge) (stand : ℕ)
        → AreTried limit cost n i t new → Knows cost n i longer → 100 * cost_to new longer.end ≤ 100 * cost_to t i + max (100 * get_or bounds k 0) (103 * unwrap_or edge.next 0) → (stand ≤ n) × (cost_to new stand ≤ cost_to t i + get_or bounds k 0) → edge.end ≤ longer.end
        → (longer.end < n → get_or bounds k 0 < cost i (longer.end + 1)) → (longer.end < n → IsSome longer.next)
        → Windowed limit cost bounds n i old new (k + 1) longer (set stands k stand)
    windowed-more t k edge stands w below new longer stand tried knows cheap stands_at forward over known =
        let here : cost_to t i ≡ cost_to old i = same-cost old t i (w.tried.same i (omega arith)) in
        let stood : (m : ℕ) → m < length bounds → (get_or (set stands k stand) m 0 ≤ n) × (cost_to new (get_or (set stands k stand) m 0) ≤ cost_to old i + get_or bounds m 0) = (λ m b.
        elim (cases_eq m k) [
          | inl same ↦
              let at : get_or (set stands k stand) m 0 ≡ stand = subst (λ (x : ℕ). get_or (set stands k stand) x 0 ≡ stand) (sym same) (get_or-set_same stands k stand 0 (omega (arith, w.stand.count, below))) in
              subst (λ (x : ℕ). (x ≤ n) × (cost_to new x ≤ cost_to old i + get_or bounds m 0)) (sym at)
              (stands_at.0, subst (λ (x : ℕ). cost_to new stand ≤ cost_to old i + get_or bounds x 0) (sym same) (omega (arith, stands_at.1, here)))
          | inr other ↦
              let at : get_or (set stands k stand) m 0 ≡ get_or stands m 0 = get_or-set_other stands k m stand 0 other in
              let was = w.stand.cheap m b in
              let now = tried.cheaper (get_or stands m 0) in
              subst (λ (x : ℕ). (x ≤ n) × (cost_to new x ≤ cost_to old i + get_or bounds m 0)) (sym at) (w.stand.within m b, omega (arith, was, now))
        ]) in
        record {
          tried = tried-more w.tried tried;
          knows = knows;
          stand = record {
            count = length-set stands k stand ∙ w.stand.count;
            within = λ m b. (stood m b).0;
            cheap = λ m b. (stood m b).1;
          };
          cheap = λ b. omega (arith, cheap, here, over b, next-least edge w.knows (longer.end + 1) (omega (arith, forward)) (omega (arith, b)));
          first = λ none b. absurd (some-none longer.next (known b) none);
          answered = λ e a b.
              elim (cases_lt edge.end e) [
                | inl behind ↦ (λ allowed.
                    let free = open-bound t k edge stands w e behind (omega (arith, b, knows.within)) allowed in
                    let up = rising k free.0 free.2 free.1 in
                    let before = tried.routes.rising e longer.end b knows.within in
                    omega (arith, before, cheap, here, up, free.3, next-least edge w.knows e behind (omega (arith, b, knows.within))))
                | inr inside ↦ (λ allowed.
                    let was = w.answered e a inside allowed in
                    let now = tried.cheaper e in
                    omega (arith, was, now))
              ];
          passed = λ b m a. let up = rising m k (omega (arith, a)) below in omega (arith, up, over b);
        }

    -- where all windows are looked at, or the edge is the end, each allowed part is answered
    pub all-answered : (t : Table) (k : ℕ) (edge : Edge) (stands : List ℕ) → Windowed limit cost bounds n i old t k edge stands → (k < length bounds → n ≤ edge.end) → (e : ℕ) → i < e → e ≤ n → IsAnswered limit cost i (cost_to old i) t e
    all-answered t k edge stands w ended e a b =
        elim (cases_lt edge.end e) [
          | inl behind ↦ (λ allowed.
              let free = open-bound t k edge stands w e behind b allowed in
              absurd (omega (arith, ended (omega (arith, free.1, free.2)), behind, b)))
          | inr inside ↦ w.answered e a inside
        ]

-- Parts that are answered are settled, and so are longer ones where a route leads on from their start to a place behind those for at most
-- 103/100 of the payload of the part up to there.
pub settled-later : (limit charge : ℕ) (cost : ℕ → ℕ → ℕ) (n i : ℕ) (t : Table) (start : ℕ) → CutsCostACharge charge cost n → i < start → IsCheapWay charge cost t i start
    → ((e : ℕ) → i < e → e < start → IsAnswered limit cost i (cost_to t i) t e) → (e : ℕ) → i < e → e ≤ n → IsSettled limit cost t i e
settled-later limit charge cost n i t start adds after cheap answered e a w allowed = elim (cases_lt start e) [
  | inl behind ↦ inr (record { start = start; after = after; before = behind; cheap = omega (arith, cheap, adds i start e after behind w) })
  | inr before ↦ inl (elim (cases_lt e start) [
    | inl inside ↦ answered e a inside allowed
    | inr at ↦ let same : e ≡ start = omega (arith, before, at) in subst (λ (x : ℕ). 100 * cost_to t x ≤ 100 * cost_to t i + 103 * cost i x) (sym same) (omega (arith, cheap))
  ])
]
