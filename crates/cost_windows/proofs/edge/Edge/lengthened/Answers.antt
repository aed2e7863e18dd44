use Rattle.std.proofs.Common.{◌≡◌, sym, subst, ◌+◌, ◌<◌, ◌≤◌, inl, inr, arith, rules, ℕ}
use Rattle.std.proofs.lemmas.Bool.{cases_lt}
use Rattle.cost_windows.proofs.edge.Edge.lengthened.Goals as goal

pub returns-then-bound-next-clause-stands : goal.returns-then-bound-next-clause-stands
returns-then-bound-next-clause-stands g c low =
    let cost = g.C.SpanCost.cost_of c.args.cost.now in
    let i = c.args.i in
    let end = c.loop-edge.edge.end in
    let h = c.loop-edge.invariant in
    let over : c.args.bound < cost i (end + 1) = search rules in
    elim (cases_lt i end) [
      | inl some ↦ inl (record {
        after = some;
        within = h.0.within;
        affordable = elim (cases_lt c.args.self.end end) [
          | inl moved ↦ (h.1 moved).1
          | inr stayed ↦ let same : end ≡ c.args.self.end = omega (arith, stayed, h.2) in subst (λ (x : ℕ). i < x → cost i x ≤ c.args.bound) (sym same) low some
        ];
        longest = λ k a b. omega (arith, over, g.met.C.SpanCost.monotone c.args.cost.now i i (end + 1) k (omega arith) (omega (arith, h.0.after)) (omega (arith, a)) b);
      })
      | inr none ↦
          let same : end ≡ i = omega (arith, none, h.0.after) in
          inr (same, subst (λ (x : ℕ). c.args.bound < cost i (x + 1)) same over)
    ]
