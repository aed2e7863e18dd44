use Rattle.std.proofs.Common.{refl, subst, ◌∙◌, length}
use Rattle.command_model.specs.Replies.{IsReply}
use Rattle.pefidx_c.specs.Segments.{joined_in}
use Rattle.pefidx_c.proofs.StatedMaxima.{lent-maxima}
use Rattle.pefidx_c.proofs.segment_calls.pefidx_reply_segments.Goals as goal

pub returns-then-not-takes_maxima-clause-given : goal.returns-then-not-takes_maxima-clause-given
returns-then-not-takes_maxima-clause-given c = λ plan done.
    let r = c.give_reply.ensures.given done in
    (r.0, subst (λ x. IsReply x c.args.line.now r.0) (c.over-lists.ensures ∙ c.in-Ok.ensures) r.1, r.2, r.3, r.4)

pub over-by_intervals-requires : goal.over-by_intervals-requires
over-by_intervals-requires c =
    lent-maxima (length c.args.words.now) (length c.args.words.now) (joined_in c.args.words.now c.args.segments.now) _ c.args.maxima.now c.new.result.bytes.now
    (c.takes_maxima.ensures c.if-not-takes_maxima.false) c.requires.maxima refl c.in-Ok.ensures c.new.ensures

pub returns-clause-given : goal.returns-clause-given
returns-clause-given c = λ plan done.
    let r = c.give_reply-2.ensures.given done in
    (r.0, subst (λ x. IsReply x c.args.line.now r.0) (c.over-by_intervals.ensures ∙ c.in-Ok.ensures) r.1, r.2, r.3, r.4)
