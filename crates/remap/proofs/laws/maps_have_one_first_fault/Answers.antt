use Rattle.remap.proofs.OneFault.{one-map_fault}
use Rattle.remap.proofs.laws.maps_have_one_first_fault.Goals as goal

pub returns : goal.returns
returns c = one-map_fault
