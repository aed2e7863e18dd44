use Rattle.std.proofs.Common.{refl}
use Rattle.commands.proofs.Names.{Alike, joined, texts, collections_of, IndexesAt}
use Rattle.commands.proofs.RepliesMade.{replies_made, replies_stopped}
use Rattle.commands.proofs.joining.segments.Goals as goal

pub returns-in_err-opened-clause-leaves : goal.returns-in_err-opened-clause-leaves
returns-in_err-opened-clause-leaves g c = λ e e' n. replies_stopped (IndexesAt Alike (texts c.args.indexes.now)) e e' n c.in_err-opened.field-0.0 c.from_residual.result c.from_residual.ensures.1 c.in_err-opened.ensures.refused

pub returns-clause-leaves : goal.returns-clause-leaves
returns-clause-leaves g c = λ e e' n.
    let all = c.in_ok-opened.ensures.loaded in
    let cs = collections_of c.in_ok-opened.opened.items in
    replies_made (IndexesAt Alike (texts c.args.indexes.now)) e e' n (all.read (joined cs) refl) (joined cs) (cs, all.found, refl)
    c.answer_joined-answered.result (rw c.deref.ensures.value at c.answer_joined-answered.ensures) c.after_answering.result c.after_answering.ensures

pub returns-clause-unaccepted : goal.returns-clause-unaccepted
returns-clause-unaccepted g c = λ denied.
    let all = c.in_ok-opened.ensures.loaded in
    let cs = collections_of c.in_ok-opened.opened.items in
    absurd (denied (joined cs, (cs, all.found, refl)))
