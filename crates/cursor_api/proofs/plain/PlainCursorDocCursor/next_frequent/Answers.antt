use Rattle.std.proofs.Common.{◌∙◌, ap, leb}
use Rattle.std.specs.List.{position_or_len}
use Rattle.std.proofs.lemmas.List.{take_rest}
use Rattle.cursor_api.proofs.Frequencies.{frequent-place}
use Rattle.cursor_api.proofs.plain.PlainCursorDocCursor.next_frequent.Goals as goal

pub returns-clause-place : goal.returns-clause-place
returns-clause-place c =
    let s = c.args.self.now in
    frequent-place s.docs.now s.freqs.now s.at c.args.f c.first_reaching-skipped.result s.same_length (c.first_reaching-skipped.ensures.first ∙ ap (position_or_len (λ x. leb c.args.f x)) (take_rest s.freqs.now s.at))
