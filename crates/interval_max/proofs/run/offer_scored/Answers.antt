use Rattle.std.proofs.Common.{◌≡◌, refl, sym, inl, inr, ◌⊎◌, ◌∙◌, subst, ℕ, ◌+◌, ◌<◌, ◌≤◌, ◌≢◌, false, List, ◌∷◌, length, get_or, set, arith}
use Rattle.std.specs.List.{All, list_any}
use Rattle.std.proofs.lemmas.Bool.{cases_lt, cases_eq, false≢true, or_left}
use Rattle.std.proofs.lemmas.List.{get_or-set_same, get_or-set_other, get_or_default}
use Rattle.scan_plans.specs.Matches.{has_doc, score}
use Rattle.scan_plans.specs.Ranking.{IsFirstK}
use Rattle.scan_plans.specs.AnyOrder.{IsTopSeen, IsOutranked}
use Rattle.interval_max.specs.Search.{is_inside, seen_with}
use Rattle.interval_max.proofs.Seen.{seen-here, seen-now, seen-other, seen-more, seen-none, not-among, outside-later, outside-apart, first-all, absent, lower-outranked}
use Rattle.interval_max.proofs.run.offer_scored.Goals as goal

pub loop-i-init : goal.loop-i-init
loop-i-init c = record {
  k = refl;
  n = refl;
  least = c.least_to_enter-least.ensures;
  clear = λ k lt. absurd (omega arith);
  rest = λ k from. refl;
  outside = λ k d within. elim (c.requires.offers.outside k d within) as (λ _. ((get_or c.args.top.now.held k d).0 < c.args.first + 0) ⊎ (c.args.first + length c.args.scores.now ≤ (get_or c.args.top.now.held k d).0)) [
    | inl lt ↦ inl (omega arith)
    | inr le ↦ inr le
  ];
  top = λ lists weights seen scored none before.
      let first : ℕ = c.args.first in
      c.top_list_grows_in_any_order.ensures.skipped c.args.top.now.n lists weights c.args.top.now.k seen (seen_with seen first (first + 0)) c.args.top.now.held before
      (λ d is. or_left (seen d) (is_inside first (first + 0) d) is)
      (λ d not now. absurd (false≢true (sym not ∙ seen-none seen first d now)));
}

pub offer-least-requires-clause-in_range : goal.offer-least-requires-clause-in_range
offer-least-requires-clause-in_range c = λ some.
    let i : ℕ = c.loop-i.i in
    let inside : i < length c.args.scores.now = omega (arith, c.loop-i.auto.scores) in
    let read = c.loop-i.invariant.rest i (omega arith) in
    let low = c.requires.offers.in_range i inside (omega arith) in
    omega (arith, c.from.ensures, c.loop-i.invariant.n)

pub offer-least-requires-clause-new : goal.offer-least-requires-clause-new
offer-least-requires-clause-new c = λ some.
    let i : ℕ = c.loop-i.i in
    let first : ℕ = c.args.first in
    let inside : i < length c.args.scores.now = omega (arith, c.loop-i.auto.scores) in
    let doc : first + i ≡ c.from.result + i = omega (arith, c.from.ensures) in
    not-among c.loop-i.top.held (c.from.result + i) (subst (λ (d : ℕ). All (λ (e : ℕ × ℕ). e.0 ≢ d) c.loop-i.top.held) doc
    (outside-apart (first + i) (first + length c.args.scores.now) (first + i) c.loop-i.top.held c.loop-i.invariant.outside (omega arith) (omega arith)))

pub loop-i-preserved : goal.loop-i-preserved
loop-i-preserved c =
    let i : ℕ = c.loop-i.i in
    let first : ℕ = c.args.first in
    let all : List ℕ = c.args.scores.now in
    let now : List ℕ = c.loop-i.scores in
    let so_far = c.loop-i.invariant in
    let least : ℕ = c.loop-i.least in
    let k : ℕ = c.args.top.now.k in
    let n : ℕ = c.args.top.now.n in
    let held : List (ℕ × ℕ) = c.loop-i.top.held in
    let new : List (ℕ × ℕ) = c.offer-least.new.top.held in
    let s : ℕ = get_or now i 0 in
    let end : ℕ = first + length all in
    let doc : c.from.result + i ≡ first + i = omega (arith, c.from.ensures) in
    let law = c.top_list_grows_in_any_order.ensures in
    let short : i < length now = omega arith in
    let inside : i < length all = omega (arith, c.loop-i.auto.scores) in
    let read : s ≡ get_or all i 0 = so_far.rest i (omega arith) in
    let some : 1 ≤ least = so_far.least.some in
    let offered : least ≤ s → IsFirstK k ((first + i, s) ∷ held) new = λ enough.
    subst (λ (k : ℕ). IsFirstK k ((first + i, s) ∷ held) new) so_far.k (subst (λ (d : ℕ). IsFirstK c.loop-i.top.k ((d, s) ∷ held) new) doc (c.offer-least.ensures.first enough)) in
    record {
      k = c.offer-least.ensures.k ∙ so_far.k;
      n = c.offer-least.ensures.n ∙ so_far.n;
      least = c.offer-least.ensures.least;
      clear = λ j lt. elim (cases_lt j i) as (λ _. get_or (set now i 0) j 0 ≡ 0) [
        | inl before ↦ (let other : j ≢ i = λ e. omega arith in get_or-set_other now i j 0 0 other ∙ so_far.clear j before)
        | inr after ↦ (let same : i ≡ j = omega arith in subst (λ (j : ℕ). get_or (set now i 0) j 0 ≡ 0) same (get_or-set_same now i 0 0 short))
      ];
      rest = λ j from. let other : j ≢ i = λ e. omega arith in get_or-set_other now i j 0 0 other ∙ so_far.rest j (omega arith);
      outside = elim (cases_lt s least) as (λ _. All (λ (e : ℕ × ℕ). (e.0 < first + (i + 1)) ⊎ (end ≤ e.0)) new) [
        | inl less ↦ (let same : new ≡ held = c.offer-least.ensures.less less in subst (All (λ (e : ℕ × ℕ). (e.0 < first + (i + 1)) ⊎ (end ≤ e.0))) (sym same) (outside-later first i end held so_far.outside))
        | inr enough ↦ first-all (λ (e : ℕ × ℕ). (e.0 < first + (i + 1)) ⊎ (end ≤ e.0)) k (first + i, s) held new (inl (omega arith)) (outside-later first i end held so_far.outside) (offered enough)
      ];
      top = λ lists weights seen scored none before.
          let d : ℕ = first + i in
          let so = so_far.top lists weights seen scored none before in
          let is : s ≡ score lists weights d = read ∙ scored.scored i inside in
          let unseen : seen d ≡ false = none d (omega arith) (omega arith) in
          elim (cases_lt s least) as (λ _. IsTopSeen (seen_with seen first (first + (i + 1))) n lists weights k new) [
            | inl less ↦ (
                let same : new ≡ held = c.offer-least.ensures.less less in
                let out : (list_any (has_doc d) lists ≡ false) ⊎ IsOutranked k held (d, score lists weights d) = elim (so_far.least.lower s less) as (λ _. (list_any (has_doc d) lists ≡ false) ⊎ IsOutranked k held (d, score lists weights d)) [
                  | inl zero ↦ inl (absent lists d (λ has. let above = (scored.found i inside).1 has in omega arith))
                  | inr full ↦ inr (subst (λ (s : ℕ). IsOutranked k held (d, s)) is (lower-outranked k d s held (full.0 ∙ so_far.k) full.1))
                ] in
                subst (λ (h : List (ℕ × ℕ)). IsTopSeen (seen_with seen first (first + (i + 1))) n lists weights k h) (sym same)
                (law.skipped n lists weights k (seen_with seen first (first + i)) (seen_with seen first (first + (i + 1))) held so (λ e was. seen-more seen first i e was)
                (λ e not is_now. elim (cases_eq e d) as (λ _. (list_any (has_doc e) lists ≡ false) ⊎ IsOutranked k held (e, score lists weights e)) [
                  | inl here ↦ subst (λ (e : ℕ). (list_any (has_doc e) lists ≡ false) ⊎ IsOutranked k held (e, score lists weights e)) (sym here) out
                  | inr other ↦ absurd (false≢true (sym not ∙ sym (seen-other seen first i e other) ∙ is_now))
                ])))
            | inr enough ↦ (
                let above : 0 < get_or all i 0 = omega arith in
                law.offered n d lists weights k (seen_with seen first (first + i)) (seen_with seen first (first + (i + 1))) held new so (c.requires.offers.in_range i inside above) ((scored.found i inside).0 above) (seen-here seen first i unseen) (seen-now seen first i) (λ e other. seen-other seen first i e other)
                (subst (λ (s : ℕ). IsFirstK k ((d, s) ∷ held) new) is (offered enough)))
          ];
    }

pub returns-clause-clear : goal.returns-clause-clear
returns-clause-clear c = λ k d within. get_or_default c.loop-i.scores k d 0 within ∙ c.loop-i.invariant.clear k (omega arith)

pub returns-clause-top : goal.returns-clause-top
returns-clause-top c = λ lists weights seen scored none before.
    let first : ℕ = c.args.first in
    let all : c.loop-i.i ≡ length c.args.scores.now = omega (arith, c.loop-i.auto.scores) in
    subst (λ (i : ℕ). IsTopSeen (seen_with seen first (first + i)) c.args.top.now.n lists weights c.args.top.now.k c.loop-i.top.held) all (c.loop-i.invariant.top lists weights seen scored none before)
