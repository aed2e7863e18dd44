use Rattle.std.proofs.Common.{◌≡◌, ◌+◌, ◌-◌, ◌*◌, ◌/◌, [], ◌∷◌, ◌++◌, sym, ap, ◌∙◌, subst, arith}
use Rattle.std.proofs.lemmas.List.FromFn.{map-range_with_len_more}
use Rattle.part_cost.specs.Span.{AreRelative}
use Rattle.worked_codes.proofs.EfRows.{runs_of_70, relative-runs}
use Rattle.worked_codes.proofs.rising_numbers.runs_of_70.Goals as goal

pub loop-k-preserved : goal.loop-k-preserved
loop-k-preserved c =
    let k = c.loop-k.k in
    c.in-Ok.ensures.items
    ∙ ap (λ xs. xs ++ (k + 930 * (k / 70)) ∷ []) c.loop-k.invariant
    ∙ sym (map-range_with_len_more (λ k. k + 930 * (k / 70)) 0 k k (omega arith))

pub returns : goal.returns
returns c =
    let all : c.loop-k.k ≡ c.args.count = omega (arith, c.loop-k-test.false, c.loop-k.auto.k-end) in
    subst (λ xs. AreRelative (c.args.count + 930 * ((c.args.count - 1) / 70)) c.args.count xs) (sym (c.loop-k.invariant ∙ ap (λ n. runs_of_70 n) all))
    (relative-runs c.args.count c.requires.some)
