use Rattle.std.proofs.Common.{arith}
use Rattle.postings.proofs.Lists.{in-length}
use Rattle.postings.proofs.cursor.PostingCursorDocCursor.advance.Goals as goal

pub next-requires : goal.next-requires
next-requires c =
    let s = c.args.self.now in
    record { within = omega (arith, c.requires, in-length s.docs.sequence.values s.sums.sequence.values s.same_length) }
