use Rattle.std.proofs.Common.{ℕ, ◌≤◌, List, sym, subst, arith}
use Rattle.two_level.specs.LongSteps.{count_reaching}
use Rattle.postings.proofs.Lists.{in-freqs, cursor-fit, reached-fits}
use Rattle.postings.proofs.cursor.PostingCursorDocCursor.common_freq.Goals as goal

pub overflow_cast-result : goal.overflow_cast-result
overflow_cast-result c =
    let s = c.args.self.now in
    omega (arith, reached-fits c.common_step.result c.args.k 4294967296 _ (cursor-fit s.docs.sequence.values s.sums.sequence.values s.same_length s.cursor.well_formed) (omega arith) c.requires.some c.common_step.ensures.reached)

pub returns-clause-reached : goal.returns-clause-reached
returns-clause-reached c = λ some.
    let s = c.args.self.now in
    subst (λ (fs : List ℕ). c.args.k ≤ count_reaching c.common_step.result fs) (sym (in-freqs s.docs.sequence.values s.sums.sequence.values s.same_length)) (c.common_step.ensures.reached some)
