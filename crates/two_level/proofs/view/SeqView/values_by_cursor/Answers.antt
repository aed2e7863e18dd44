use Rattle.std.proofs.Common.{◌≡◌, ◌+◌, ◌∙◌, length, slice_index, ap, subst, arith}
use Rattle.std.proofs.lemmas.List.{ext_get_or}
use Rattle.collection_model.specs.NextBelow.{AreNextBelow}
use Rattle.sequence_words.specs.SequenceView.{SequenceView}
use Rattle.two_level.proofs.view.SeqView.values_by_cursor.Goals as goal

pub returns : goal.returns
returns c =
    let values = c.args.self.now.values in
    let to = c.values_on.new.to in
    let read : AreNextBelow values c.cursor-cursor.result.place 18446744073709551615 to (length c.args.to.now)
    = subst (λ (v : SequenceView). AreNextBelow v.values c.cursor-cursor.result.place 18446744073709551615 to (length c.args.to.now)) c.cursor-cursor.ensures.sequence c.values_on.ensures.values in
    let fits : length to ≡ length values = c.values_on.ensures.room ∙ c.requires.room in
    ext_get_or 0 to values fits (λ i lt.
    let at : c.cursor-cursor.result.place + i ≡ i = omega (arith, c.cursor-cursor.ensures.start) in
    read.same i (omega (arith, lt, c.values_on.ensures.room)) ∙ ap (slice_index values) at)
