use Rattle.std.proofs.Common.{◌≡◌, ◌∙◌, sym, subst, ℕ, List, ◌∷◌, get_or, arith}
use Rattle.std.proofs.lemmas.Result.{IfOk-weaker}
use Rattle.std.proofs.lemmas.List.{take_all}
use Rattle.scan_plans.specs.Ranking.{IsFirstK}
use Rattle.pefidx_c.proofs.Firsts.{Pair, first-of-all, first-more, is-new}
use Rattle.pefidx_c.proofs.joining.first_of.Goals as goal

pub offer-requires-clause-new : goal.offer-requires-clause-new
offer-requires-clause-new c =
    is-new 4294967295 c.min-most.result c.loop-pair.pair-index c.args.pairs.now c.loop-pair.top.held
    (0, 0) c.requires
    c.loop-pair-test.true c.loop-pair.invariant.first

pub loop-pair-preserved : goal.loop-pair-preserved
loop-pair-preserved c =
    let so_far = c.loop-pair.invariant in
    let most : ℕ = c.min-most.result in
    let e : Pair = get_or c.args.pairs.now c.loop-pair.pair-index (0, 0) in
    record {
      k = c.offer.ensures.k ∙ so_far.k;
      n = c.offer.ensures.n ∙ so_far.n;
      first = first-more 4294967295 most c.loop-pair.pair-index c.args.pairs.now
          c.loop-pair.top.held c.offer.new.self.held (0, 0)
          c.top_list_grows_in_any_order.ensures.first_offered c.requires c.loop-pair-test.true
          so_far.first
          (subst (λ (k : ℕ). IsFirstK k (e ∷ c.loop-pair.top.held) c.offer.new.self.held) so_far.k
          c.offer.ensures.first);
    }

pub returns : goal.returns
returns c =
    let pairs : List Pair = c.args.pairs.now in
    let all = subst (λ (l : List Pair). IsFirstK c.min-most.result l c.loop-pair.top.held)
    (take_all c.loop-pair.pair-index pairs (omega (arith, c.loop-pair-test.false)))
    c.loop-pair.invariant.first in
    let first = first-of-all c.args.k c.min-most.result pairs c.loop-pair.top.held
    (omega (arith, c.min-most.ensures, c.from.ensures)) all in
    IfOk-weaker c.into_list.result (λ r. r.items ≡ c.loop-pair.top.held)
    (λ r. IsFirstK c.args.k pairs r.items)
    (λ r is. subst (IsFirstK c.args.k pairs) (sym is) first) c.into_list.ensures
