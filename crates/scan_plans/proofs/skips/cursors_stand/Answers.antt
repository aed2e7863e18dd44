use Rattle.scan_plans.proofs.Postings.{next_geq-stands}
use Rattle.scan_plans.proofs.Skipping.{stands-here, stands-one_later}
use Rattle.scan_plans.proofs.skips.cursors_stand.Goals as goal

pub returns : goal.returns
returns c = record { here = stands-here; one_later = stands-one_later; next_geq = next_geq-stands c.next_geq_is_first.ensures.first }
