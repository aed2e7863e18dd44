use Rattle.std.proofs.Common.{◌≡◌, ap, inl, inr, ◌∙◌, ℕ, List, get_or, arith}
use Rattle.std.proofs.lemmas.Bool.{cases_lt}
use Rattle.std.proofs.lemmas.List.{get_or_default}
use Rattle.std.proofs.lemmas.Nat.{le_or_l, le_or_r}
use Rattle.query_text.proofs.replies.widest.Goals as goal

pub loop-entry-preserved : goal.loop-entry-preserved
loop-entry-preserved c j d before =
    let top : List (ℕ × ℕ) = c.args.top.now in
    let i : ℕ = c.loop-entry.entry-index in
    let e : ℕ × ℕ = get_or top i (0, 0) in
    let some = c.loop-entry-test.true in
    let docs-or = le_or_r c.loop-entry.docs e.0 in
    let scores-or = le_or_r c.loop-entry.scores e.1 in
    let docs-more = le_or_l c.loop-entry.docs e.0 in
    let scores-more = le_or_l c.loop-entry.scores e.1 in
    elim (cases_lt j i) [
      | inl earlier ↦ (let so_far = c.loop-entry.invariant j d earlier in let doc = so_far.0 in let score = so_far.1 in (omega arith, omega arith))
      | inr now ↦ (
          let same : j ≡ i = omega arith in
          let at : get_or top j d ≡ e = ap (λ (m : ℕ). get_or top m d) same ∙ get_or_default top i d (0, 0) (omega arith) in
          let doc = ap (λ (x : ℕ × ℕ). x.0) at in
          let score = ap (λ (x : ℕ × ℕ). x.1) at in
          (omega arith, omega arith))
    ]

pub returns : goal.returns
returns c = λ j d within.
    let top : List (ℕ × ℕ) = c.args.top.now in
    let end = c.loop-entry-test.false in
    let all = c.loop-entry.invariant j d (omega arith) in
    let widened = c.from.ensures in
    let doc = c.digit_count.ensures.most (get_or top j d).0 (omega (arith, all.0)) in
    let score = c.digit_count-2.ensures.most (get_or top j d).1 all.1 in
    omega arith
