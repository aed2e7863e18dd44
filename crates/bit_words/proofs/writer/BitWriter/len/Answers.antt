use Rattle.std.proofs.Common.{ap, ◌∙◌, sym, length}
use Rattle.bit_words.proofs.Writing.{length-held}
use Rattle.bit_words.proofs.writer.BitWriter.len.Goals as goal

pub returns : goal.returns
returns c = sym (length-held c.self.inside.words.items c.self.inside.len c.self.invariant) ∙ ap length c.self.view_is
