use Rattle.std.proofs.Common.{◌*◌, rules}
use Rattle.bit_words.proofs.OneAfter.{held-whole, view-whole}
use Rattle.bit_words.proofs.writer.BitWriter.after.Goals as goal

pub invariant_of-result : goal.invariant_of-result
invariant_of-result c = held-whole c.args.words.items (64 * c.len.result) (search rules)

pub returns : goal.returns
returns c = view-whole c.args.words.items (64 * c.len.result) (search rules)
