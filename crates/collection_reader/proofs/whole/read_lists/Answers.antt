use Rattle.std.proofs.Common.{◌∙◌, ap, Ok, Err}
use Rattle.std.proofs.lemmas.Result.{err_from_is_err_and}
use Rattle.collection_reader.proofs.ListsRead.{one-more, list-refused, lists-ended}
use Rattle.collection_reader.proofs.whole.read_lists.Goals as goal

pub returns-in_err-next_list : goal.returns-in_err-next_list
returns-in_err-next_list g c =
    let p = err_from_is_err_and c.from_residual.result c.from_residual.ensures.1 in
    list-refused _ _ _ _ _ _ _ _ _ _ _ _ c.loop-freqs.invariant.read c.next_list.ensures.list c.in_err-next_list.was (p.1 ∙ ap Err p.2)

pub loop-freqs-preserved : goal.loop-freqs-preserved
loop-freqs-preserved g c =
    one-more _ _ _ _ _ _ _ _ _ _ c.next_list.new.docs c.next_list.new.freqs _ c.loop-freqs.invariant c.next_list.ensures.list (c.in_ok-next_list.was ∙ ap Ok c.if-not-branch.false) c.in_ok-push.ensures.items c.in_ok-push-2.ensures.items

pub returns-then-not-branch : goal.returns-then-not-branch
returns-then-not-branch g c =
    lists-ended _ _ _ _ _ _ c.loop-freqs.lists _ _ _ c.loop-freqs.invariant c.next_list.ensures.list (c.in_ok-next_list.was ∙ ap Ok c.if-not-branch.true)
