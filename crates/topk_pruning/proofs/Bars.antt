-- Lemmas on the bar that a score must beat to be held.
use Rattle.std.proofs.Common.{◌≡◌, sym, inl, inr, ◌∙◌, subst, ℕ, ◌<◌, ◌≤◌, true, false, List, ◌∷◌, map, get_or, Option, arith}
use Rattle.std.specs.Prelude.{◌↔◌, Contains}
use Rattle.std.specs.List.{All}
use Rattle.std.proofs.lemmas.Bool.{cases_lt, false≢true}
use Rattle.std.proofs.lemmas.List.{length-map, get_or-map}
use Rattle.std.proofs.lemmas.List.Elements.{All-contains, All-cons}
use Rattle.scan_plans.specs.Ranking.{IsFirstK}
use Rattle.scan_plans.specs.Skips.{IsBarred}
use Rattle.topk_pruning.specs.Terms.{beats}

-- a lower score is barred too
pub barred-lower : (floor k : ℕ) (held : List (ℕ × ℕ)) (high low : ℕ) → low ≤ high → IsBarred floor k held high → IsBarred floor k held low
barred-lower floor k held high low le (inl under) = inl (omega arith)
barred-lower floor k held high low le (inr full) = inr (full.0, λ i e within. let h = full.1 i e within in omega arith)

-- a score that beats the bar reaches the floor
pub beats-floor : (floor k score : ℕ) (o : Option ℕ) (held : List (ℕ × ℕ)) → ((s : ℕ) → (beats o s ≡ false) ↔ IsBarred floor k held s) → beats o score ≡ true → floor ≤ score
beats-floor floor k score o held bars above = elim (cases_lt score floor) as (λ _. floor ≤ score) [
  | inl under ↦ absurd (false≢true (sym ((bars score).1 (inl under)) ∙ above))
  | inr over ↦ over
]

-- what is barred stays so when a score that beats the bar is held
pub barred-kept : (floor k doc score b : ℕ) (o : Option ℕ) (held new : List (ℕ × ℕ)) → ((s : ℕ) → (beats o s ≡ false) ↔ IsBarred floor k held s) → beats o score ≡ true → IsFirstK k ((doc, score) ∷ held) new → IsBarred floor k held b → IsBarred floor k new b
barred-kept floor k doc score b o held new bars above first (inl under) = inl under
barred-kept floor k doc score b o held new bars above first (inr full) =
    let P : ℕ × ℕ → Type 0 = λ e. b ≤ e.1 in
    let high : b ≤ score = elim (cases_lt score b) as (λ _. b ≤ score) [
      | inl lt ↦ absurd (false≢true (sym ((bars score).1 (inr (full.0, λ i e within. let h = full.1 i e within in omega arith))) ∙ above))
      | inr ge ↦ ge
    ] in
    let each : All P ((doc, score) ∷ held) = All-cons P (doc, score) held high full.1 in
    let count = first.count in
    let all = full.0 in
    inr (omega arith, λ i d within. All-contains P ((doc, score) ∷ held) (get_or new i d) each (first.of_them i d within))

-- the same bar at equal numbers
pub bars-at : (o : Option ℕ) (f g j k : ℕ) (held : List (ℕ × ℕ)) → f ≡ g → j ≡ k → ((s : ℕ) → (beats o s ≡ false) ↔ IsBarred f j held s) → (s : ℕ) → beats o s ≡ false → IsBarred g k held s
bars-at o f g j k held floors ks bars s is = subst (λ (k : ℕ). IsBarred g k held s) ks (subst (λ (f : ℕ). IsBarred f j held s) floors ((bars s).0 is))

-- documents before one are not it
pub later-is_new : (d : ℕ) (held : List (ℕ × ℕ)) → All (λ (x : ℕ × ℕ). x.0 < d) held → ¬ Contains (map (λ (x : ℕ × ℕ). x.0) held) d
later-is_new d held below c =
    let l = length-map held (λ (x : ℕ × ℕ). x.0) in
    let inside = c.1 in
    let read = get_or-map (λ (x : ℕ × ℕ). x.0) held c.0 (d, 0) d (omega arith) in
    let lt = below c.0 (d, 0) (omega arith) in
    let same = c.2 in
    absurd (omega arith)
