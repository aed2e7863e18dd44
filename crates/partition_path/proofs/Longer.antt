-- Lemmas on routes with a number more.
use Rattle.std.proofs.Common.{◌≡◌, sym, subst, ◌∙◌, ℕ, ◌+◌, ◌<◌, ◌≤◌, inl, inr, List, length, get_or, set, arith, get_or-set_same, get_or-set_other}
use Rattle.std.proofs.lemmas.Bool.{cases_eq}
use Rattle.std.proofs.lemmas.List.{length-set}
use Rattle.partition_path.specs.declared.lines.Open.{Open}
use Rattle.partition_path.specs.Lines.{IsLonger, no_open, width_weight}

-- the routes of the low widths before k have a number more
pub record LongerTo (place known charge gap : ℕ) (old new : List Open) (best : Open) (k : ℕ) : Type 0 where
  pub count : length new ≡ length old
  pub each : (m : ℕ) → m < k → m < length old → IsLonger place known charge (width_weight m gap) (get_or old m no_open) (get_or new m no_open)
  pub cheapest : (m : ℕ) → m < k → m < length old → best.least ≤ (get_or new m no_open).least
  pub start : ((m : ℕ) → m < length old → (get_or old m no_open).start ≤ place) → best.start ≤ place
  pub rest : (m : ℕ) → k ≤ m → get_or new m no_open ≡ get_or old m no_open

module _ (place known charge gap : ℕ) (old : List Open) where
  pub longer-more : (new : List Open) (best : Open) (k : ℕ) → LongerTo place known charge gap old new best k → k < length new → (route longer cheaper : Open) → route ≡ get_or new k no_open
      → IsLonger place known charge (width_weight k gap) route longer → cheaper.least ≤ best.least → cheaper.least ≤ longer.least → ((p : ℕ) → best.start ≤ p → longer.start ≤ p → cheaper.start ≤ p)
      → LongerTo place known charge gap old (set new k longer) cheaper (k + 1)
  longer-more new best k s below route longer cheaper is one less this from =
      let at : get_or (set new k longer) k no_open ≡ longer = get_or-set_same new k longer no_open below in
      let was : route ≡ get_or old k no_open = is ∙ s.rest k (omega arith) in
      let other : (m : ℕ) → (m ≡ k → ⊥) → get_or (set new k longer) m no_open ≡ get_or new m no_open = (λ m e. get_or-set_other new k m longer no_open e) in
      record {
        count = length-set new k longer ∙ s.count;
        each = λ m l w. elim (cases_eq m k) [
          | inl same ↦ subst (λ (x : ℕ). IsLonger place known charge (width_weight x gap) (get_or old x no_open) (get_or (set new k longer) x no_open)) (sym same)
              (subst (λ (x : Open). IsLonger place known charge (width_weight k gap) (get_or old k no_open) x) (sym at) (subst (λ (x : Open). IsLonger place known charge (width_weight k gap) x longer) was one))
          | inr apart ↦ subst (λ (x : Open). IsLonger place known charge (width_weight m gap) (get_or old m no_open) x) (sym (other m apart)) (s.each m (omega (arith, l, apart)) w)
        ];
        cheapest = λ m l w. elim (cases_eq m k) [
          | inl same ↦ subst (λ (x : ℕ). cheaper.least ≤ (get_or (set new k longer) x no_open).least) (sym same) (subst (λ (x : Open). cheaper.least ≤ x.least) (sym at) this)
          | inr apart ↦ subst (λ (x : Open). cheaper.least ≤ x.least) (sym (other m apart)) (omega (arith, less, s.cheapest m (omega (arith, l, apart)) w))
        ];
        start = λ starts. let before : k < length old = omega (arith, below, s.count) in from place (s.start starts) (one.start (subst (λ (x : Open). x.start ≤ place) (sym was) (starts k before)));
        rest = λ m l. other m (λ e. omega (arith, l, e)) ∙ s.rest m (omega (arith, l));
      }
