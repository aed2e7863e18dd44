use Rattle.std.proofs.Common.{inr}
use Rattle.commands.proofs.Names.{told_ok}
use Rattle.std.proofs.lemmas.Result.{err_from_is_err_and}
use Rattle.commands.proofs.OtherSide.{kept_is_none}
use Rattle.commands.proofs.side_loading.load_side.Goals as goal

pub returns-in_err-view-clause-refused : goal.returns-in_err-view-clause-refused
returns-in_err-view-clause-refused g c =
    let p = err_from_is_err_and c.from_residual-in_err-view.result c.from_residual-in_err-view.ensures.1 in
    let was = told_ok c.load_words.result c.map_err.result _ c.in_ok-words.words c.map_err.ensures.cases c.in_ok-words.was in
    rw p.1 (inr (
      c.in_err-view.field-0.0,
      kept_is_none (g.S.BlockSource.lists c.args.source.now) c.args.name.now _ _ c.in_ok-words.words.items c.in_err-view.field-0.0 (rw was at c.load_words.ensures.loads)
          (rw c.deref.ensures.value at c.in_err-view.ensures.other_words) (rw c.deref.ensures.value at c.in_err-view.ensures.first),
      p.2,
    ))
