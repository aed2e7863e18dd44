use Rattle.std.proofs.Common.{mul-le-mul}
use Rattle.interval_max.proofs.maxima.Bounds.fit.Goals as goal

pub returns : goal.returns
returns c = λ v. mul-le-mul (c.args.self.bytes v) c.args.self.small
