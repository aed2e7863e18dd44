use Rattle.std.proofs.Common.{arith}
use Rattle.query_text.proofs.Written.{digits-of_64}
use Rattle.query_text.proofs.replies.counted_text.Goals as goal

pub write_digits-start-requires : goal.write_digits-start-requires
write_digits-start-requires c =
    let fits = c.ranges.count.fits in
    let few = digits-of_64 c.args.count (omega arith) in
    (omega arith, omega arith)
