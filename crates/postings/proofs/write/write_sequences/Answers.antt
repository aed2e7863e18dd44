use Rattle.part_cost.specs.Formats.{numbers_of}
use Rattle.part_cost.proofs.Rooms.{formats-have-room}
use Rattle.postings.proofs.Written.{docs-values, sums-values}
use Rattle.postings.proofs.write.write_sequences.Goals as goal

pub write_seq-requires-clause-rising : goal.write_seq-requires-clause-rising
write_seq-requires-clause-rising c =
    (docs-values (numbers_of c.args.format) (formats-have-room c.args.format) c.args.docs.values.now c.requires.list.0 c.requires.list.1 c.requires.list.2).rising

pub write_seq-requires-clause-below : goal.write_seq-requires-clause-below
write_seq-requires-clause-below c =
    (docs-values (numbers_of c.args.format) (formats-have-room c.args.format) c.args.docs.values.now c.requires.list.0 c.requires.list.1 c.requires.list.2).below

pub write_seq-requires-clause-few : goal.write_seq-requires-clause-few
write_seq-requires-clause-few c =
    (docs-values (numbers_of c.args.format) (formats-have-room c.args.format) c.args.docs.values.now c.requires.list.0 c.requires.list.1 c.requires.list.2).few

pub write_seq-written-requires-clause-rising : goal.write_seq-written-requires-clause-rising
write_seq-written-requires-clause-rising c =
    (sums-values (numbers_of c.args.format) (formats-have-room c.args.format) c.args.sums.values.now c.requires.list.0 c.requires.list.1 c.requires.list.3).rising

pub write_seq-written-requires-clause-below : goal.write_seq-written-requires-clause-below
write_seq-written-requires-clause-below c =
    (sums-values (numbers_of c.args.format) (formats-have-room c.args.format) c.args.sums.values.now c.requires.list.0 c.requires.list.1 c.requires.list.3).below

pub write_seq-written-requires-clause-few : goal.write_seq-written-requires-clause-few
write_seq-written-requires-clause-few c =
    (sums-values (numbers_of c.args.format) (formats-have-room c.args.format) c.args.sums.values.now c.requires.list.0 c.requires.list.1 c.requires.list.3).few
