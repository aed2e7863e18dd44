use Rattle.std.proofs.Common.{◌∙◌}
use Rattle.std.proofs.lemmas.Result.{err_from_is_err_and}
use Rattle.word_files.proofs.LoadedWords.{start-refused, kept-loaded, first-loaded}
use Rattle.word_files.proofs.loading.load_words.Goals as goal

pub returns-in_err-start-clause-loads : goal.returns-in_err-start-clause-loads
returns-in_err-start-clause-loads g c =
    let p = err_from_is_err_and c.from_residual.result c.from_residual.ensures.1 in
    rw (p.1, p.2) (start-refused c.args.slot c.args.name.now _ _ _ c.in_err-start.ensures)

pub returns-clause-loads : goal.returns-clause-loads
returns-clause-loads g c = kept-loaded c.args.openings.now c.args.slot c.args.name.now _ _ _ _ c.in_ok-start.ensures c.read_file.ensures.reads

pub returns-clause-first : goal.returns-clause-first
returns-clause-first g c tells =
    first-loaded c.args.slot c.args.name.now (g.D.Depot.state c.args.depot.now)
    (g.D.Depot.state c.start.new.self) _
    c.in_ok-start.ensures tells (c.read_file.ensures.first (c.in_ok-start.ensures.tells ∙ tells))
