use Rattle.std.proofs.Common.{arith, ◌∙◌, ap, drop, length, ◌-◌}
use Rattle.std.specs.Prelude.{is_ok}
use Rattle.std.proofs.lemmas.List.{length-drop, length-take}
use Rattle.std.proofs.lemmas.Result.{IfOk-at_ok}
use Rattle.io_traits.proofs.Prefixes.{one_prefix, no_more_at_ok}
use Rattle.io_traits.proofs.helpers.write_all_own.Goals as goal

pub loop-at-preserved : goal.loop-at-preserved
loop-at-preserved g c = (
  omega (arith, IfOk-at_ok _ c.in_ok-at.was c.write.ensures.within, length-take (length c.args.piece.now - c.loop-at.at) (drop c.loop-at.at c.args.piece.now), length-drop c.loop-at.at c.args.piece.now, c.loop-at.invariant.0),
  c.write.ensures.tells ∙ c.loop-at.invariant.1,
  (λ t. one_prefix _ _ _ c.args.piece.now c.loop-at.at c.in_ok-at.field-0 c.loop-at.invariant.0 (c.loop-at.invariant.2 t)
      (IfOk-at_ok _ c.in_ok-at.was (c.write.ensures.appended (c.loop-at.invariant.1 ∙ t)))),
  c.write.ensures.faults.same_at_ok (ap is_ok c.in_ok-at.was) ∙ c.loop-at.invariant.3,
  no_more_at_ok _ _ c.in_ok-at.was c.write.ensures.refusals_rise_only_there ∙ c.loop-at.invariant.4,
)
