use Rattle.std.proofs.Common.{ℕ, ◌≤◌, ◌∙◌, refl, sym, subst, length}
use Rattle.interval_max.specs.Kept.{word_of}
use Rattle.interval_max.proofs.Kept.{at-entry}
use Rattle.interval_max.proofs.view.MaximaView.bounds_at.Goals as goal

pub returns-clause-bound : goal.returns-clause-bound
returns-clause-bound c = λ within v.
    let bytes = c.args.self.bytes.now in
    c.of_bytes.ensures.bound v
    ∙ at-entry bytes (word_of bytes) c.args.i c.word-head.result c.word-2.result c.word.result c.min-from.result c.min-to.result c.min-step.result _
    c.word-head.ensures c.word-2.ensures c.word.ensures (subst (λ (n : ℕ). n ≤ length bytes) (sym c.word.ensures) within) c.min-to.ensures c.min-from.ensures c.min-step.ensures refl v
