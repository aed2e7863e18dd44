use Rattle.std.proofs.Common.{sym, subst, ℕ, List, length}
use Rattle.index_intervals.specs.LongLists.{AreIndexMaxima}
use Rattle.pefidx_c.specs.Segments.{joined_in}
use Rattle.pefidx_c.proofs.segment_calls.pefidx_maxima_segments.Goals as goal

pub returns-in-Ok-clause-given : goal.returns-in-Ok-clause-given
returns-in-Ok-clause-given c = λ done.
    let these = subst (λ (xs : List ℕ). AreIndexMaxima (length c.args.words.now) (joined_in c.args.words.now c.args.segments.now) xs) (sym c.bytes.ensures) c.in-Ok.ensures in
    (c.bytes.result.now, these, c.give.ensures.status, c.give.ensures.room, c.give.ensures.count)
