use Rattle.std.proofs.Common.{ℕ, ◌+◌, sym, ap, ◌∙◌, List, get_or, arith}
use Rattle.collection_model.specs.Collection.{freqs_of}
use Rattle.collection_model.proofs.Lists.{freqs-of_postings}
use Rattle.cursor_api.proofs.plain.PlainCursorDocCursor.postings_below.Goals as goal

pub returns-clause-freqs : goal.returns-clause-freqs
returns-clause-freqs c = λ j lt.
    let new = c.docs_below-count.new.self in
    let all = sym (freqs-of_postings new.docs.now new.freqs.now new.same_length) ∙ ap freqs_of c.docs_below-count.ensures.list in
    c.loop-j.invariant j (omega arith) ∙ ap (λ (xs : List ℕ). get_or xs (c.args.self.now.at + j) 0) all
