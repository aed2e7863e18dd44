use Rattle.std.proofs.Common.{arith}
use Rattle.cursor_api.specs.Postings.{postings-length}
use Rattle.cursor_api.proofs.plain.PlainCursorDocCursor.advance.Goals as goal

pub invariant_of-self : goal.invariant_of-self
invariant_of-self c =
    let s = c.args.self.now in
    record { same_length = s.same_length; lent = s.lent; within = omega (arith, c.requires, postings-length s.docs.now s.freqs.now s.same_length) }
