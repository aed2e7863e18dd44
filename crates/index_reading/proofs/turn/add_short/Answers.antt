use Rattle.std.proofs.lemmas.Result.{on_ok_weaker}
use Rattle.index_reading.proofs.InTurn.{are-to-add, sequences-added}
use Rattle.index_reading.proofs.turn.add_short.Goals as goal

pub add_docs-requires-clause-few : goal.add_docs-requires-clause-few
add_docs-requires-clause-few c =
    let list = c.args.list.now in
    (are-to-add c.args.first list.greatest list.docs.values list.freqs.values c.requires.same_length c.requires.list c.requires.most c.requires.few).few

pub add_freqs-requires-clause-not_zero : goal.add_freqs-requires-clause-not_zero
add_freqs-requires-clause-not_zero c =
    let list = c.args.list.now in
    (are-to-add c.args.first list.greatest list.docs.values list.freqs.values c.requires.same_length c.requires.list c.requires.most c.requires.few).not_zero

pub add_freqs-requires-clause-fit : goal.add_freqs-requires-clause-fit
add_freqs-requires-clause-fit c =
    let list = c.args.list.now in
    (are-to-add c.args.first list.greatest list.docs.values list.freqs.values c.requires.same_length c.requires.list c.requires.most c.requires.few).fit

pub add_freqs-requires-clause-most : goal.add_freqs-requires-clause-most
add_freqs-requires-clause-most c =
    let list = c.args.list.now in
    (are-to-add c.args.first list.greatest list.docs.values list.freqs.values c.requires.same_length c.requires.list c.requires.most c.requires.few).greatest_is

pub returns-clause-added : goal.returns-clause-added
returns-clause-added c =
    let list = c.args.list.now in
    on_ok_weaker c.add_freqs.result (λ freqs. sequences-added c.args.first list.docs.values list.freqs.values c.args.docs.now.items c.args.freqs.now.items _ _ c.requires.same_length c.in_ok-add_docs.ensures freqs) c.add_freqs.ensures
