use Rattle.std.proofs.Common.{◌≡◌, ◌∙◌, subst, ℕ, ◌+◌, List, take, length, arith}
use Rattle.std.proofs.lemmas.List.{length-take-le}
use Rattle.collection_model.specs.Collection.{Posting}
use Rattle.interval_max.specs.Peaks.{ArePeaksTo}
use Rattle.interval_max.proofs.Steps.{next-postings}
use Rattle.interval_max.proofs.peaks.take_peaks.Goals as goal

pub loop-docs-preserved : goal.loop-docs-preserved
loop-docs-preserved g c =
    let list : List Posting = g.C.DocCursor.list c.args.cursor.now in
    let place : ℕ = g.C.DocCursor.place c.loop-docs.cursor in
    let call = c.postings_below-count in
    let same = c.loop-docs.invariant.list in
    let count : ℕ = call.result in
    let room = call.ensures.docs_room in
    let docs = c.loop-docs.invariant.docs in
    let long : length (take count call.new.docs) ≡ count = length-take-le count call.new.docs call.ensures.docs.room in
    let e : place + length (take count call.new.docs) ≡ g.C.DocCursor.place call.new.self = omega (arith, call.ensures.place) in
    let postings = next-postings list (g.C.DocCursor.list c.loop-docs.cursor) place count call.new.docs call.new.freqs same (g.met.C.DocCursor.well_formed c.args.cursor.now).well_formed call.ensures.docs call.ensures.freqs in
    record {
      list = call.ensures.list ∙ same;
      peaks = subst (λ (n : ℕ). ArePeaksTo list n c.add_block.new.peaks.items) e (c.in_ok-add_block.ensures list place postings c.loop-docs.invariant.peaks);
      docs = room ∙ docs;
      freqs = call.ensures.freqs_room ∙ c.loop-docs.invariant.freqs;
    }
