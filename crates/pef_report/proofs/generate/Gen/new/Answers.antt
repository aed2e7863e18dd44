use Rattle.std.proofs.Common.{ap, ◌-◌, arith, ◌≡◌}
use Rattle.pef_report.specs.Generated.{lists_drawn, generated}
use Rattle.pef_report.proofs.generate.Gen.new.Goals as goal

pub returns-clause-lists : goal.returns-clause-lists
unfolding generated
returns-clause-lists c =
    let all : c.args.t - 0 ≡ c.args.t = omega arith in
    ap (lists_drawn c.args.n 0 c.args.seed) all
