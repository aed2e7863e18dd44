use Rattle.worked_readings.proofs.Started.{stay_started}
use Rattle.worked_readings.proofs.collections.two_answers.Goals as goal

pub next_list-second-requires : goal.next_list-second-requires
next_list-second-requires g c = record { started = stay_started _ _ c.in_ok-reader.ensures.started c.next_list-first.ensures.list.depot.reads }
