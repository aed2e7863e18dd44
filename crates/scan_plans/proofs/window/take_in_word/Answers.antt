use Rattle.std.proofs.Common.{refl, sym, ◌∙◌, subst, ℕ, ◌+◌, ◌*◌, ◌^◌, ◌<◌, List, length, set, get_or, arith}
use Rattle.std.specs.Int.{w64, trailing_zeros}
use Rattle.std.proofs.lemmas.Bool.{false≢true}
use Rattle.std.proofs.lemmas.List.{set-get_or}
use Rattle.scan_plans.specs.Window.{AreTakenBack}
use Rattle.scan_plans.proofs.Candidates.{IsStep, without, word-step, taken-none, passed-one}
use Rattle.scan_plans.proofs.window.take_in_word.Goals as goal
use Rattle.scan_plans.proofs.window.take_in_word.Goals.{In-loop-rest}

pub loop-rest-init : goal.loop-rest-init
loop-rest-init c =
    let marks = c.args.marks.now in
    let start : AreTakenBack (64 * c.args.i) c.args.scores.now marks c.args.scores.now marks = taken-none c.args.scores.now marks c.requires.wide c.requires.marked (64 * c.args.i) c.requires.taken in
    record {
      low = 64 * c.args.i;
      start = omega arith;
      end = omega arith;
      taken = subst (λ (ms : List ℕ). AreTakenBack (64 * c.args.i) c.args.scores.now marks c.args.scores.now ms) (sym (set-get_or marks c.args.i 0)) start;
      passed = λ k lt is. absurd (false≢true (sym (c.requires.taken k lt) ∙ is));
      same = refl;
    }

-- the lowest mark of what is left of the word is taken
lowest-taken : (c : In-loop-rest) → IsStep c.args.least (64 * c.args.i + trailing_zeros w64 c.loop-rest.rest) c.args.scores.now c.args.marks.now c.loop-rest.scores (set c.args.marks.now c.args.i c.loop-rest.rest)
    (set c.loop-rest.scores (64 * c.args.i + trailing_zeros w64 c.loop-rest.rest) 0) (set c.args.marks.now c.args.i (without c.loop-rest.rest (trailing_zeros w64 c.loop-rest.rest)))
    × (trailing_zeros w64 c.loop-rest.rest < 64) × (without c.loop-rest.rest (trailing_zeros w64 c.loop-rest.rest) < c.loop-rest.rest)
lowest-taken c =
    let more : 0 < c.loop-rest.rest = let test = c.loop-rest-test.true in omega arith in
    let small : c.loop-rest.rest < 2 ^ 64 = let fits = c.loop-rest.auto.rest-fits in omega arith in
    let so_far = c.loop-rest.invariant in
    word-step c.args.scores.now c.args.marks.now c.requires.wide c.requires.marked c.args.least c.args.i so_far.low c.loop-rest.rest c.loop-rest.scores c.requires.word c.requires.inside so_far.start more small so_far.passed
    (subst (λ (ms : List ℕ). AreTakenBack so_far.low c.args.scores.now c.args.marks.now c.loop-rest.scores (set ms c.args.i c.loop-rest.rest)) so_far.same so_far.taken) (trailing_zeros w64 c.loop-rest.rest) refl

-- its place lies in the window
lowest-within : (c : In-loop-rest) → 64 * c.args.i + trailing_zeros w64 c.loop-rest.rest < length c.loop-rest.scores
lowest-within c =
    let within = (lowest-taken c).0.within in
    let count = c.loop-rest.invariant.taken.count in
    omega arith

pub overflow_mul-at : goal.overflow_mul-at
overflow_mul-at c = omega (arith, lowest-within (goal.at.overflow_mul-at c).In-loop-rest, c.loop-rest.auto.scores)

pub overflow_add-at : goal.overflow_add-at
overflow_add-at c = omega (arith, lowest-within (goal.at.overflow_add-at c).In-loop-rest, c.loop-rest.auto.scores)

pub offset_bounds-scores-at : goal.offset_bounds-scores-at
offset_bounds-scores-at c = omega (arith, lowest-within (goal.at.offset_bounds-scores-at c).In-loop-rest, c.loop-rest.auto.scores)

pub bounds-scores-at : goal.bounds-scores-at
bounds-scores-at c = omega (arith, lowest-within (goal.at.bounds-scores-at c).In-loop-rest, c.loop-rest.auto.scores)

pub offset_bounds-scores-at-in-loop-rest : goal.offset_bounds-scores-at-in-loop-rest
offset_bounds-scores-at-in-loop-rest c = omega (arith, lowest-within (goal.at.offset_bounds-scores-at-in-loop-rest c).In-loop-rest, c.loop-rest.auto.scores)

pub bounds-scores-at-in-loop-rest : goal.bounds-scores-at-in-loop-rest
bounds-scores-at-in-loop-rest c = omega (arith, lowest-within (goal.at.bounds-scores-at-in-loop-rest c).In-loop-rest, c.loop-rest.auto.scores)

pub returns-then-score-least-clause-some : goal.returns-then-score-least-clause-some
returns-then-score-least-clause-some c =
    let step = (lowest-taken (goal.at.returns-then-score-least-clause-some c).In-loop-rest).0 in
    record { within = step.within; marked = step.marked; scored = sym step.scored; enough = c.if-score-least.true; others = step.passed }

pub returns-then-score-least-clause-taken : goal.returns-then-score-least-clause-taken
returns-then-score-least-clause-taken c =
    let step = (lowest-taken (goal.at.returns-then-score-least-clause-taken c).In-loop-rest).0 in
    subst (λ (ms : List ℕ). AreTakenBack (64 * c.args.i + trailing_zeros w64 c.loop-rest.rest + 1) c.args.scores.now c.args.marks.now (set c.loop-rest.scores (64 * c.args.i + trailing_zeros w64 c.loop-rest.rest) 0) (set ms c.args.i (without c.loop-rest.rest (trailing_zeros w64 c.loop-rest.rest)))) (sym c.loop-rest.invariant.same) step.taken

pub loop-rest-smaller : goal.loop-rest-smaller
loop-rest-smaller c = (lowest-taken (goal.at.loop-rest-smaller c).In-loop-rest).2

pub loop-rest-preserved : goal.loop-rest-preserved
loop-rest-preserved c =
    let so_far = c.loop-rest.invariant in
    let found = lowest-taken (goal.at.loop-rest-preserved c).In-loop-rest in
    let step = found.0 in
    let short = found.1 in
    let at : ℕ = 64 * c.args.i + trailing_zeros w64 c.loop-rest.rest in
    record {
      low = at + 1;
      start = omega arith;
      end = omega arith;
      taken = subst (λ (ms : List ℕ). AreTakenBack (at + 1) c.args.scores.now c.args.marks.now (set c.loop-rest.scores at 0) (set ms c.args.i (without c.loop-rest.rest (trailing_zeros w64 c.loop-rest.rest)))) (sym so_far.same) step.taken;
      passed = passed-one c.args.scores.now c.args.marks.now c.args.least at (get_or c.loop-rest.scores at 0) step.scored c.if-score-least.false step.passed;
      same = so_far.same;
    }
