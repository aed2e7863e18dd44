use Rattle.elias_fano.proofs.Views.{places-fit}
use Rattle.elias_fano.proofs.laws.places_fit_samples.Goals as goal

pub returns : goal.returns
returns c = places-fit c.low_width_is_best.ensures c.digits_hold.ensures.hold
