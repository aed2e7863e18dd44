use Rattle.std.proofs.Common.{sym, ◌∙◌}
use Rattle.postings.proofs.Lists.{in-length}
use Rattle.postings.proofs.cursor.PostingCursorDocCursor.len.Goals as goal

pub returns : goal.returns
returns c = let s = c.args.self.now in s.count ∙ sym (in-length s.docs.sequence.values s.sums.sequence.values s.same_length)
