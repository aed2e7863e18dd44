use Rattle.std.proofs.Common.{◌≡◌, ℕ, ◌-◌, subst, List}
use Rattle.collection_model.specs.Collection.{Posting, docs_of}
use Rattle.collection_model.specs.NextBelow.{AreNextBelow}
use Rattle.segments.proofs.Shifts.{block-fits, block-shifted}
use Rattle.segments.proofs.part.read_docs.Goals as goal

pub count_on-requires : goal.count_on-requires
count_on-requires g c =
    let part = c.args.part.now in
    record { fit = block-fits part.0 (g.C.DocCursor.list part.1) (g.C.DocCursor.place part.1) c.saturating_sub.result c.docs_below-count.result c.docs_below-count.new.docs c.type_inv.first.fits (g.met.C.DocCursor.well_formed part.1).well_formed c.docs_below-count.ensures.docs }

pub returns-clause-docs : goal.returns-clause-docs
returns-clause-docs g c =
    let part = c.args.part.now in
    let list : List Posting = g.C.DocCursor.list part.1 in
    let place : ℕ = g.C.DocCursor.place part.1 in
    let count : ℕ = c.docs_below-count.result in
    let end : c.saturating_sub.result ≡ c.args.end - part.0 = c.saturating_sub.ensures in
    block-shifted part.0 list place c.args.end count c.docs_below-count.new.docs c.count_on.new.docs
    (subst (λ (x : ℕ). AreNextBelow (docs_of list) place x c.docs_below-count.new.docs count) end c.docs_below-count.ensures.docs) c.count_on.ensures.count c.count_on.ensures.each
