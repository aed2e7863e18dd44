use Rattle.std.proofs.Common.{◌∙◌, ◌<◌, length, arith}
use Rattle.std.proofs.lemmas.List.Sorted.{All-permutation, IsPermutation-trans}
use Rattle.topk_pruning.specs.declared.term.Term.{Term}
use Rattle.topk_pruning.proofs.Near.{spared-less}
use Rattle.topk_pruning.proofs.essential.with_short_lists.Goals as goal

pub loop-place-preserved : goal.loop-place-preserved
loop-place-preserved g c =
    let so_far = c.loop-place.invariant in
    let taken = c.take_short-count.ensures in
    let new = c.take_short-count.new.terms in
    let more = taken.more in
    let so_many = so_far.more in
    let less = taken.less in
    let so_less = so_far.less in
    record {
      inside = All-permutation (λ (t : Term). t.list < length c.args.cursors.now) c.loop-place.terms new taken.moved so_far.inside;
      moved = IsPermutation-trans c.args.terms.now c.loop-place.terms new so_far.moved taken.moved;
      each = taken.each ∙ so_far.each;
      more = omega arith;
      within = taken.within;
      less = omega arith;
    }

pub returns-clause-spared : goal.returns-clause-spared
returns-clause-spared g c = λ floor k held spared.
    let so_far = c.loop-place.invariant in
    let within = so_far.within in
    let each = so_far.each in
    let end = c.loop-place.auto.place-end in
    spared-less c.args.terms.now c.loop-place.terms c.args.essential c.loop-place.count floor k held so_far.each so_far.more (omega arith) so_far.less spared
