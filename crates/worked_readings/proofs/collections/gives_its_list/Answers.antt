use Rattle.worked_readings.proofs.Started.{stay_started}
use Rattle.worked_readings.proofs.collections.gives_its_list.Goals as goal

pub next_list-requires-2 : goal.next_list-requires-2
next_list-requires-2 c = record { started = stay_started _ _ c.in_ok-reader.ensures.started c.in_ok-more.ensures.list.depot.reads }
