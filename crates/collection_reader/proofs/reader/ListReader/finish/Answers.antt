use Rattle.collection_reader.proofs.Refusals.{end_refused}
use Rattle.collection_reader.proofs.reader.ListReader.finish.Goals as goal

pub returns-in-Err-clause-sizes : goal.returns-in-Err-clause-sizes
returns-in-Err-clause-sizes g c =
    let tried = rw (← c.self.view_is, ← c.self-2.view_is) at c.in-Err.ensures in
    rw (← c.self.view_is) (end_refused _ _ _ _ _ c.clear-in-Err.new.self.items c.in-Err.refusal c.in_default.not-Some tried c.clear-in-Err.ensures.items)
