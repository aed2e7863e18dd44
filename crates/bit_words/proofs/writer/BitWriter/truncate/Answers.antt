use Rattle.std.proofs.Common.{ap, ◌∙◌, take, arith}
use Rattle.bit_words.proofs.Cut.{view-cut}
use Rattle.bit_words.proofs.writer.BitWriter.truncate.Goals as goal

pub returns-then-len-self : goal.returns-then-len-self
returns-then-len-self c =
    view-cut c.self.inside.words.items c.cut.new.words.items c.self.inside.len c.args.len c.self.invariant (omega arith) c.cut.ensures.count c.cut.ensures.value
    ∙ ap (take c.args.len) c.self.view_is
