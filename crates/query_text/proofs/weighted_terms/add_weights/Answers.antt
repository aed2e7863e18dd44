use Rattle.std.proofs.Common.{refl, ℕ, get_or, arith}
use Rattle.std.specs.Prelude.{Ok, Err}
use Rattle.query_text.proofs.WeightSums.{weights-more, weight-fits, term-found}
use Rattle.query_text.proofs.weighted_terms.add_weights.Goals as goal
use Rattle.query_text.proofs.weighted_terms.add_weights.Goals.{in-Ok, in_default}

pub overflow_add-weights : goal.overflow_add-weights
overflow_add-weights c =
    omega (
      arith,
      weight-fits c.args.fields.now c.args.terms.now c.loop-term.weights c.loop-term.term-index c.in-Ok.at _ c.loop-term.invariant (omega arith) c.requires.few c.requires.weights c.in-Ok.ensures.bound refl,
    )

pub loop-term-preserved : goal.loop-term-preserved
loop-term-preserved c =
    let fields = c.args.fields.now in
    let terms = c.args.terms.now in
    let j : ℕ = c.loop-term.term-index in
    let field = get_or fields j (0, 0) in
    elim c.match-binary_search.branch [
      | in-Ok w ↦ (let at = term-found fields terms j field.0 (Ok w.in-Ok.at) c.requires.terms (omega arith) refl w.in-Ok.ensures.position in
          weights-more fields terms c.loop-term.weights c.match-binary_search.weights j w.in-Ok.at field.0 field.1 _ c.requires.terms c.loop-term.invariant (omega arith) refl at.0 at.1 refl w.weights-is)
      | in_default w ↦ absurd (term-found fields terms j field.0 (Err w.in_default.field-0) c.requires.terms (omega arith) refl w.in_default.ensures.position)
    ]
