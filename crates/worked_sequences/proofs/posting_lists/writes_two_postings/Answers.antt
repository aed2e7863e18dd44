use Rattle.std.proofs.Common.{rules}
use Rattle.worked_sequences.proofs.posting_lists.writes_two_postings.Goals as goal

pub write_postings-requires-clause-list : goal.write_postings-requires-clause-list
write_postings-requires-clause-list g c = search rules
