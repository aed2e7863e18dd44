use Rattle.std.proofs.Common.{inl, inr, sym, ◌∙◌, subst, ℕ, ◌≤◌, List}
use Rattle.std.proofs.lemmas.Bool.{cases_lt, false≢true}
use Rattle.topk_pruning.specs.Terms.{Considers}
use Rattle.topk_pruning.proofs.Bars.{barred-kept}
use Rattle.topk_pruning.proofs.candidates.consider.Goals as goal

pub returns-in-Some-clause-considered : goal.returns-in-Some-clause-considered
returns-in-Some-clause-considered g c =
    let top = c.args.top.now in
    let score : ℕ = c.in-Some.score in
    let new : List (ℕ × ℕ) = c.offer.new.self.held in
    let enough : top.floor ≤ score = elim (cases_lt score top.floor) [
      | inl less ↦ absurd (false≢true (sym ((c.bar.ensures score).1 (inl less)) ∙ c.in-Some.ensures.above))
      | inr least ↦ least
    ] in
    record {
      k = c.offer.ensures.k;
      n = c.offer.ensures.n;
      floor = c.offer.ensures.floor;
      held = subst (λ (s : ℕ). Considers top.floor top.k c.args.candidate.doc s top.held new) c.in-Some.ensures.value (inl (enough, c.offer.ensures.first));
      kept = λ s barred. barred-kept top.floor top.k c.args.candidate.doc score s c.bar.result top.held new c.bar.ensures c.in-Some.ensures.above c.offer.ensures.first barred;
    }
