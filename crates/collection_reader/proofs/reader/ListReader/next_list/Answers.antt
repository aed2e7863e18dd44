use Rattle.collection_reader.proofs.Refusals.{list_refused}
use Rattle.collection_reader.proofs.reader.ListReader.next_list.Goals as goal

pub returns-in-Err-clause-list : goal.returns-in-Err-clause-list
returns-in-Err-clause-list g c =
    let tried = rw (← c.self.view_is, ← c.self-2.view_is) at c.in-Err.ensures in
    rw (← c.self.view_is) (list_refused _ _ _ _ _ _ c.clear-in-Err.new.self.items c.clear-in-Err-2.new.self.items c.in-Err.refusal c.in_default.not-Some tried c.clear-in-Err.ensures.items c.clear-in-Err-2.ensures.items)
