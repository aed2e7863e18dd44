use Rattle.std.proofs.Common.{ap, ◌∙◌, rules, ℕ, ◌<◌, ◌^◌, get_or, length}
use Rattle.bit_words.specs.Bits.{words_of}
use Rattle.bit_words.proofs.Writing.{words_of-held}
use Rattle.bit_words.proofs.writer.BitWriter.into_words.Goals as goal

pub returns : goal.returns
returns c =
    let fits : (i : ℕ) → i < length c.self.inside.words.items → get_or c.self.inside.words.items i 0 < 2 ^ 64 = search rules in
    words_of-held c.self.inside.words.items c.self.inside.len fits c.self.invariant ∙ ap words_of c.self.view_is
