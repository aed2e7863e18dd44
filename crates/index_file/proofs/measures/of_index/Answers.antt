use Rattle.std.proofs.Common.{◌≡◌, ◌<◌, ◌+◌, ◌∙◌, sym, ap, arith, drop, length, map}
use Rattle.std.specs.List.{sum}
use Rattle.std.proofs.lemmas.List.{length-map}
use Rattle.std.proofs.lemmas.List.Sums.{sum_by-drop_more, sum-map}
use Rattle.index_file.specs.FirstBroken.{stated_terms}
use Rattle.index_file.specs.IndexView.{index_stated, cut_lists}
use Rattle.index_file.specs.Measures.{Measure, counted, measure_of_list}
use Rattle.index_file.proofs.FileKinds.{framed}
use Rattle.index_file.proofs.StatedIndex.{lists-back}
use Rattle.index_file.proofs.Measured.{whole-sum}
use Rattle.index_file.proofs.MeasuredFiles.{sums-small, empty-adds}
use Rattle.index_file.proofs.measures.of_index.Goals as goal
use Rattle.index_file.proofs.measures.of_index.Goals.{After-of_list}

-- what was counted, with the list
so_far : (c : After-of_list) (m : Measure) → counted c.loop-t.total m + counted c.of_list.result m + sum (drop (c.loop-t.t + 1) (map (measure_of_list m) (cut_lists (index_stated c.args.words.now))))
    ≡ sum (map (measure_of_list m) (cut_lists (index_stated c.args.words.now)))
so_far c m =
    let words = c.args.words.now in
    let i = index_stated c.args.words.now in
    let f = framed c.file_laws.ensures.takes c.args.format words i.collection i.parts c.requires.index in
    let cs = cut_lists (index_stated c.args.words.now) in
    let ns = map (measure_of_list m) (cut_lists (index_stated c.args.words.now)) in
    let count : length (map (measure_of_list m) (cut_lists (index_stated c.args.words.now))) ≡ stated_terms c.args.words.now =
    length-map cs (measure_of_list m) ∙ sym (length-map cs (λ x. x.list)) ∙ ap length (lists-back i.collection.lists i.parts c.requires.index.partitions) ∙ sym f.terms in
    let within : c.loop-t.t < length (map (measure_of_list m) (cut_lists (index_stated c.args.words.now))) = omega (arith, count, c.walked_terms-t-end.ensures.within) in
    omega (arith, c.loop-t.invariant m, c.of_list.ensures m, sum_by-drop_more (λ x. x) ns c.loop-t.t 0 within)

pub plus-total-requires : goal.plus-total-requires
plus-total-requires c =
    let i = index_stated c.args.words.now in
    record {
      small = λ m. omega (arith, so_far (goal.at.plus-total-requires c).After-of_list m, sums-small c.file_laws.ensures c.sequence_takes_its_cost.ensures c.args.format c.args.words.now c.requires.words i.collection i.parts c.requires.index m);
    }

pub loop-t-preserved : goal.loop-t-preserved
loop-t-preserved c m = omega (arith, so_far (goal.at.loop-t-preserved c).After-of_list m, c.plus-total.ensures m)

pub returns : goal.returns
returns c m =
    let i = index_stated c.args.words.now in
    let cs = cut_lists (index_stated c.args.words.now) in
    whole-sum (counted c.loop-t.total m) (map (measure_of_list m) cs) c.loop-t.t
    (λ k le. empty-adds m i.collection.lists i.parts c.requires.index.partitions k (c.walked_terms-t-end.ensures.rest k (omega (arith, le))))
    (c.loop-t.invariant m)
    ∙ sum-map (measure_of_list m) cs
