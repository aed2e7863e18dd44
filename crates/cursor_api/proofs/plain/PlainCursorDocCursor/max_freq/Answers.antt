use Rattle.std.proofs.Common.{sym, ap, ◌∙◌}
use Rattle.std.specs.Option.{unwrap_or}
use Rattle.std.proofs.lemmas.Iterator.{YieldsList-from_slice}
use Rattle.std.proofs.lemmas.Iterator.Consumers.{max_from_yields_List}
use Rattle.collection_model.specs.Collection.{greatest}
use Rattle.collection_model.proofs.Lists.{freqs-of_postings}
use Rattle.cursor_api.proofs.Places.{greatest-reduce}
use Rattle.cursor_api.proofs.plain.PlainCursorDocCursor.max_freq.Goals as goal

pub returns : goal.returns
returns c =
    let s = c.args.self.now in
    let picked = max_from_yields_List {v = λ x. x.now} c.iter.result c.max.result c.max.ensures.ran (YieldsList-from_slice s.freqs.now c.iter.ensures.rest) in
    c.unwrap_or.ensures ∙ ap (λ o. unwrap_or o 0) (c.copied.ensures ∙ picked) ∙ greatest-reduce s.freqs.now ∙ ap greatest (sym (freqs-of_postings s.docs.now s.freqs.now s.same_length))
