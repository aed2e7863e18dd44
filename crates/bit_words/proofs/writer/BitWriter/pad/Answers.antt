use Rattle.std.proofs.Common.{arith, ap, ◌∙◌, sym, length, ◌≡◌, ◌+◌, ◌*◌, ◌/◌}
use Rattle.bit_words.specs.Bits.{padded}
use Rattle.bit_words.proofs.Writing.{rounds_up, length-padded, held-padded, view-padded}
use Rattle.bit_words.proofs.writer.BitWriter.pad.Goals as goal

pub overflow_mul-self : goal.overflow_mul-self
overflow_mul-self c =
    let rounded : c.div_ceil.result ≡ (c.self.inside.len + 63) / 64 = rounds_up c.self.inside.len c.div_ceil.result c.div_ceil.ensures in
    let padded_length : length (padded c.args.self.now) ≡ (c.self.inside.len + 63) / 64 * 64 = sym (ap (λ bits. length (padded bits)) c.self.view_is) ∙ length-padded c.self.inside.words.items c.self.inside.len c.self.invariant in
    omega arith

pub invariant_of-self : goal.invariant_of-self
invariant_of-self c = held-padded c.self.inside.words.items c.self.inside.len (c.div_ceil.result * 64) c.self.invariant (ap (λ n. n * 64) (rounds_up c.self.inside.len c.div_ceil.result c.div_ceil.ensures))

pub returns-clause-ok : goal.returns-clause-ok
returns-clause-ok c = view-padded c.self.inside.words.items c.self.inside.len (c.div_ceil.result * 64) c.self.invariant (ap (λ n. n * 64) (rounds_up c.self.inside.len c.div_ceil.result c.div_ceil.ensures)) ∙ ap padded c.self.view_is
