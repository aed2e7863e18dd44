use Rattle.pef_top.proofs.Names.{command_of, texts, Accepts}
use Rattle.pef_top.proofs.RunEnds.{run_ends, usage_reported, usage_uncalled, is_ok}
use Rattle.pef_top.proofs.top.run_on.Goals as goal

pub returns-clause-runs : goal.returns-clause-runs
returns-clause-runs g c =
    let command = command_of (texts c.args.words.now) in
    let outcome = c.perform-ending.result in
    let left = c.perform-ending.ensures.leaves (g.E.Sink.state c.args.err.now) (g.E.Sink.state c.report.new.err) in
    record {
      usage = λ none.
          let same = usage_uncalled command (Accepts command (g.D.Depot.state c.args.on.now.depot.now)) outcome _ _ _ _ _ _ none c.perform-ending.ensures.uncalled in
          (usage_reported command _ _ outcome _ left c.report.ensures.ending none, same.0, same.1, same.2);
      outcome = (
        outcome,
        run_ends command _ _ outcome _ left c.report.ensures.ending,
        left.performs,
        left.starts,
        c.perform-ending.ensures.uncalled,
        λ done. c.report.ensures.done (is_ok c.perform-ending.result done),
      );
    }
