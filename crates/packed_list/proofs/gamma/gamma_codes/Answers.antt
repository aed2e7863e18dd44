use Rattle.packed_list.proofs.GammaCodes.{gamma-takes, one-gamma}
use Rattle.packed_list.proofs.GammaBack.{gamma-reads-back}
use Rattle.packed_list.proofs.gamma.gamma_codes.Goals as goal

pub returns-clause-takes : goal.returns-clause-takes
returns-clause-takes c = gamma-takes

pub returns-clause-one : goal.returns-clause-one
returns-clause-one c = one-gamma

pub returns-clause-back : goal.returns-clause-back
returns-clause-back c = gamma-reads-back
