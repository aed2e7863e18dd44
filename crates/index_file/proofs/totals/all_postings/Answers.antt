use Rattle.std.proofs.Common.{◌≡◌, ◌<◌, [], ◌∙◌, length, map, ap, arith, rules, Fits, w32}
use Rattle.std.proofs.lemmas.List.{length-map}
use Rattle.std.proofs.lemmas.List.Sums.{sum_by-drop_more, sum-map}
use Rattle.collection_model.specs.Collection.{Posting, list_of}
use Rattle.index_file.specs.FileWords.{ListParts}
use Rattle.index_file.specs.IndexView.{index_stated}
use Rattle.index_file.proofs.FileKinds.{framed, list-read, narrow-words}
use Rattle.index_file.proofs.Measured.{whole-sum}
use Rattle.index_file.proofs.MeasuredFiles.{count-at, empty-count}
use Rattle.index_file.proofs.totals.all_postings.Goals as goal

pub list_views-requires-clause-index : goal.list_views-requires-clause-index
list_views-requires-clause-index c = let i = index_stated c.args.words.now in (i.collection, i.parts, c.requires.index)

pub loop-t-preserved : goal.loop-t-preserved
loop-t-preserved c =
    let words = c.args.words.now in
    let i = index_stated c.args.words.now in
    let t = c.loop-t.t in
    let lists = (index_stated c.args.words.now).collection.lists in
    let ns = map (length {A = Posting}) lists in
    let none : ListParts = record { doc_ends = []; freq_ends = [] } in
    let f = framed c.file_laws.ensures.takes c.args.format words i.collection i.parts c.requires.index in
    let within : c.loop-t.t < length (index_stated c.args.words.now).collection.lists = omega (arith, f.terms, c.walked_terms-t-end.ensures.within) in
    let read = list-read c.file_laws.ensures c.args.format words (narrow-words words (λ k. omega (arith, c.type_inv.words k))) i.collection i.parts none c.requires.index t within in
    let rise = (c.file_laws.ensures.sequences c.args.format).rise _ i.collection.documents (list_of i.collection t) (c.requires.index.well_formed.lists t [] within) in
    let count : c.len.result ≡ length (list_of (index_stated c.args.words.now).collection c.loop-t.t) = c.len.ensures ∙ ap (λ v. length v.values) (c.list_views.ensures.docs ∙ read.docs) ∙ rise.docs_count in
    let small : Fits w32 c.len.result = search rules in
    record {
      so_far = omega (arith, c.loop-t.invariant.so_far, c.from-total.ensures, count, count-at lists t within, sum_by-drop_more (λ x. x) ns t 0 (omega (arith, within, length-map lists (length {A = Posting}))));
      few = omega (arith, c.loop-t.invariant.few, c.from-total.ensures, small);
    }

pub returns : goal.returns
returns c =
    let lists = (index_stated c.args.words.now).collection.lists in
    whole-sum c.loop-t.total (map (length {A = Posting}) lists) c.loop-t.t
    (λ k le. empty-count lists k (c.walked_terms-t-end.ensures.rest k (omega (arith, le))))
    c.loop-t.invariant.so_far
    ∙ sum-map (length {A = Posting}) lists
