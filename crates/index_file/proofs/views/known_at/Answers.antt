use Rattle.std.proofs.Common.{sym, subst}
use Rattle.std.proofs.lemmas.List.{take_rest}
use Rattle.two_level.specs.SequenceView.{BeginWith}
use Rattle.index_file.proofs.views.known_at.Goals as goal

pub known-requires-clause-checked : goal.known-requires-clause-checked
known-requires-clause-checked c =
    let h = c.requires.checked in
    (h.0, h.1, subst (λ ws. BeginWith ws c.args.parts c.args.m h.0) (sym (take_rest c.args.words.now c.args.p)) h.2)

pub returns : goal.returns
returns c = record { same = λ v e h. c.known.ensures.same v e (subst (λ ws. BeginWith ws c.args.parts c.args.m v) (sym (take_rest c.args.words.now c.args.p)) h) }
