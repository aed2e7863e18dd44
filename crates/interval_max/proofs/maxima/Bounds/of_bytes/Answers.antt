use Rattle.std.proofs.Common.{arith}
use Rattle.interval_max.proofs.Pairs.{paired-le}
use Rattle.interval_max.proofs.maxima.Bounds.of_bytes.Goals as goal

pub invariant_of-result-2 : goal.invariant_of-result-2
invariant_of-result-2 c = record {
  small = c.requires;
  bytes = λ v. let le = paired-le 0 c.args.bytes.now v (λ i. omega (arith, c.type_inv.bytes i)) in omega (arith, le);
}
