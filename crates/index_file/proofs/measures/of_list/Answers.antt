use Rattle.std.proofs.Common.{◌+◌, ◌∙◌, arith, get_or, map}
use Rattle.index_file.specs.IndexView.{index_stated, cut_lists}
use Rattle.index_file.specs.Measures.{Measure, measure_of_list}
use Rattle.index_file.proofs.FileKinds.{framed, narrow-words}
use Rattle.index_file.proofs.MeasuredFiles.{MeasuredViews, views-measured}
use Rattle.index_file.proofs.measures.of_list.Goals as goal
use Rattle.index_file.proofs.measures.of_list.Goals.{After-into_view}

pub list_views-list-requires-clause-index : goal.list_views-list-requires-clause-index
list_views-list-requires-clause-index c = let stated = index_stated c.args.words.now in (stated.collection, stated.parts, c.requires.index)

pub of_sequence-docs-requires : goal.of_sequence-docs-requires
of_sequence-docs-requires c =
    let words = c.args.words.now in
    let i = index_stated c.args.words.now in
    let narrow = narrow-words words (λ k. omega (arith, c.type_inv.words k)) in
    let f = framed c.file_laws.ensures.takes c.args.format words i.collection i.parts c.requires.index in
    let list = c.list_views-list in
    record {
      measured = λ m. (views-measured c.file_laws.ensures c.sequence_takes_its_cost.ensures m c.args.format words narrow c.requires.words i.collection i.parts c.requires.index c.args.t (omega (arith, c.requires.within, f.terms)) list.result.docs list.result.freqs list.ensures.docs list.ensures.freqs).docs;
    }

-- what the views add to each measure
views : (c : After-into_view) (m : Measure) → MeasuredViews m c.list_views-list.result.docs c.into_view.result (get_or (map (measure_of_list m) (cut_lists (index_stated c.args.words.now))) c.args.t 0)
views c m =
    let words = c.args.words.now in
    let i = index_stated c.args.words.now in
    let narrow = narrow-words words (λ k. omega (arith, c.type_inv.words k)) in
    let f = framed c.file_laws.ensures.takes c.args.format words i.collection i.parts c.requires.index in
    let list = c.list_views-list in
    views-measured c.file_laws.ensures c.sequence_takes_its_cost.ensures m c.args.format words narrow c.requires.words i.collection i.parts c.requires.index c.args.t (omega (arith, c.requires.within, f.terms)) list.result.docs c.into_view.result list.ensures.docs (c.into_view.ensures ∙ list.ensures.freqs)

pub of_sequence-requires : goal.of_sequence-requires
of_sequence-requires c = record { measured = λ m. (views (goal.at.of_sequence-requires c).After-into_view m).freqs }

pub plus-requires : goal.plus-requires
plus-requires c = record {
  small = λ m.
      let v = views (goal.at.plus-requires c).After-into_view m in
      omega (arith, c.of_sequence-docs.ensures m, c.of_sequence.ensures m, v.docs.small, v.freqs.small);
}

pub returns : goal.returns
returns c m =
    let v = views (goal.at.returns c).After-into_view m in
    omega (arith, c.plus.ensures m, c.of_sequence-docs.ensures m, c.of_sequence.ensures m, v.adds)
