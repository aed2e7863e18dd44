use Rattle.std.proofs.Common.{◌≡◌, ℕ, ◌+◌, ◌-◌, ◌<◌, List, [], leb, cond, min, length, get_or, set, drop, sym, ap, ◌∙◌, arith}
use Rattle.std.proofs.lemmas.List.{drop_all}
use Rattle.collection_model.specs.Sequences.{steps_from}
use Rattle.two_level.specs.LongSteps.{count_reaching}
use Rattle.two_level.proofs.LongSteps.{count-most, count-next, keep-longer, keep-shorter}
use Rattle.two_level.proofs.kept_steps.keep_steps.Goals.{then-kept-least, else-kept-least}
use Rattle.two_level.proofs.kept_steps.keep_steps.Goals as goal

pub loop-value-preserved : goal.loop-value-preserved
loop-value-preserved c =
    let values : List ℕ = c.args.values.now in
    let old : List ℕ = c.args.kept.now in
    let kept : List ℕ = c.loop-value.kept in
    let new : List ℕ = c.if-kept-least.kept in
    let least : ℕ = c.loop-value.least in
    let past : ℕ = c.loop-value.past in
    let index : ℕ = c.loop-value.value-index in
    let value : ℕ = get_or values index 0 in
    let so_far = c.loop-value.invariant in
    let inside : index < length values = c.loop-value-test.true in
    let rest : ℕ → ℕ → ℕ = λ t p. count_reaching t (steps_from p (drop (index + 1) values)) in
    let all : ℕ → ℕ = λ t. min (length old) (count_reaching t old + count_reaching t (steps_from c.args.first values)) in
    let before : (t : ℕ) → min (length old) (count_reaching t kept + (cond {A = ℕ} (leb t (value + 1 - past)) 1 0 + rest t (value + 1))) ≡ all t =
    λ t. ap (λ n. min (length old) (count_reaching t kept + n)) (sym (count-next t past index values inside)) ∙ so_far.longest t in
    let with_step : (t : ℕ) → min (length old) (count_reaching t kept + (cond {A = ℕ} (leb t c.saturating_sub-step.result) 1 0 + rest t (value + 1))) ≡ all t =
    λ t. ap (λ s. min (length old) (count_reaching t kept + (cond {A = ℕ} (leb t s) 1 0 + rest t (value + 1)))) c.saturating_sub-step.ensures ∙ before t in
    elim c.if-kept-least.branch [
      | then-kept-least w ↦
          let step : ℕ = c.saturating_sub-step.result in
          let longer : List ℕ = set kept least step in
          let place = w.place_of_least-least-then-kept-least in
          let first : (t : ℕ) → min (length old) (count_reaching t longer + rest t (value + 1)) ≡ all t =
          λ t. keep-longer t (length old) least step (rest t (value + 1)) (all t) kept so_far.same_kept so_far.within so_far.least_is w.if-kept-least.true (with_step t) in
          record {
            within = omega (arith, w.least-is, ap length w.kept-is, place.ensures.within);
            least_is =
                λ k lt.
                omega (arith, place.ensures.least k (omega (arith, lt, ap length w.kept-is)), ap (λ ks. get_or ks k 0) w.kept-is, ap (λ ks. get_or ks c.if-kept-least.least 0) w.kept-is, ap (λ i. get_or longer i 0) w.least-is);
            same_kept = c.if-kept-least.auto.kept ∙ so_far.same_kept;
            longest = λ t. ap (λ ks. min (length old) (count_reaching t ks + rest t c.if-kept-least.past)) w.kept-is ∙ ap (λ p. min (length old) (count_reaching t longer + rest t p)) w.past-is ∙ first t;
          }
      | else-kept-least w ↦
          let step : ℕ = c.saturating_sub-step.result in
          let first : (t : ℕ) → min (length old) (count_reaching t kept + rest t (value + 1)) ≡ all t =
          λ t. keep-shorter t (length old) least step (rest t (value + 1)) (all t) kept so_far.same_kept so_far.least_is w.if-kept-least.false (with_step t) in
          record {
            within = omega (arith, w.least-is, ap length w.kept-is, so_far.within);
            least_is =
                λ k lt.
                omega (arith, so_far.least_is k (omega (arith, lt, ap length w.kept-is)), ap (λ ks. get_or ks k 0) w.kept-is, ap (λ ks. get_or ks c.if-kept-least.least 0) w.kept-is, ap (λ i. get_or kept i 0) w.least-is);
            same_kept = c.if-kept-least.auto.kept ∙ so_far.same_kept;
            longest = λ t. ap (λ ks. min (length old) (count_reaching t ks + rest t c.if-kept-least.past)) w.kept-is ∙ ap (λ p. min (length old) (count_reaching t kept + rest t p)) w.past-is ∙ first t;
          }
    ]

pub returns-clause-kept : goal.returns-clause-kept
returns-clause-kept c t =
    let values : List ℕ = c.args.values.now in
    let kept : List ℕ = c.loop-value.kept in
    let past : ℕ = c.loop-value.past in
    let so_far = c.loop-value.invariant in
    let rest : drop c.loop-value.value-index values ≡ [] = drop_all c.loop-value.value-index values (omega (arith, c.loop-value-test.false)) in
    omega (arith, so_far.longest t, so_far.same_kept, count-most t kept, ap (λ vs. count_reaching t (steps_from past vs)) rest)
