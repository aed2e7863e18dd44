use Rattle.std.proofs.Common.{arith}
use Rattle.query_text.proofs.Written.{digits-of_64}
use Rattle.query_text.proofs.replies.next_reply.Goals as goal

pub write_after-middle-requires-clause-room : goal.write_after-middle-requires-clause-room
write_after-middle-requires-clause-room c =
    let freq = c.from.ensures in
    let digits = digits-of_64 c.from.result (omega arith) in
    omega arith

pub write_digits-start-requires : goal.write_digits-start-requires
write_digits-start-requires c =
    let freq = c.from.ensures in
    let digits = digits-of_64 c.from.result (omega arith) in
    let doc = c.from-2.ensures in
    let more = digits-of_64 c.from-2.result (omega arith) in
    let start = c.write_after-middle.ensures.start in
    let count = c.write_after-middle.ensures.count in
    (omega arith, omega arith)
