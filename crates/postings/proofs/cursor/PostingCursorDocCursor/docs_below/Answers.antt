use Rattle.std.proofs.Common.{sym, subst}
use Rattle.collection_model.specs.NextBelow.{AreNextBelow}
use Rattle.collection_model.specs.Sequences.{postings_in}
use Rattle.postings.proofs.Lists.{in-docs}
use Rattle.postings.proofs.cursor.PostingCursorDocCursor.docs_below.Goals as goal

pub returns-clause-list : goal.returns-clause-list
returns-clause-list c = λ i. postings_in (c.take_docs.ensures.sequence i).values (c.take_docs.ensures.sums i).sequence.values

pub returns-clause-docs : goal.returns-clause-docs
returns-clause-docs c =
    let s = c.args.self.now in
    subst (λ xs. AreNextBelow xs s.docs.place c.args.end c.take_docs.new.docs c.take_docs.result) (sym (in-docs s.docs.sequence.values s.sums.sequence.values s.same_length)) c.take_docs.ensures.docs
