use Rattle.std.proofs.Common.{sym, arith}
use Rattle.collection_model.specs.Collection.{docs_of, postings_of}
use Rattle.collection_model.proofs.Lists.{rising-length, docs_of-length}
use Rattle.cursor_api.specs.Postings.{postings-length}
use Rattle.cursor_api.proofs.plain.PlainCursorDocCursor.len.Goals as goal

pub overflow_cast-result : goal.overflow_cast-result
overflow_cast-result c =
    let s = c.args.self.now in
    let list = postings_of s.docs.now s.freqs.now in
    omega (arith, rising-length (docs_of list) 4294967295 s.lent.rising s.lent.docs, docs_of-length list, postings-length s.docs.now s.freqs.now s.same_length)

pub returns : goal.returns
returns c = let s = c.args.self.now in sym (postings-length s.docs.now s.freqs.now s.same_length)
