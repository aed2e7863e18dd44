use Rattle.std.proofs.Common.{◌≤◌, arith}
use Rattle.part_cost.specs.Formats.{numbers_of}
use Rattle.part_cost.proofs.Rooms.{formats-have-room}
use Rattle.index_file.specs.IndexView.{IndexView}
use Rattle.index_blocks.proofs.Read.{all-cut}
use Rattle.index_blocks.proofs.source.IndexBlocks.new.Goals as goal

pub invariant_of-result : goal.invariant_of-result
invariant_of-result c =
    let i : IndexView = c.args.index.now in
    let well = c.stands_for_a_collection.ensures.well_formed in
    let room = formats-have-room i.format in
    let few : i.collection.documents ≤ 4294967295 = omega (arith, well.documents, room.fit) in
    record {
      cut = all-cut i.collection.lists i.parts c.stands_for_a_collection.ensures.partitions
          (λ k d within. c.cursors_stand_in_lists.ensures (numbers_of i.format) i.collection.documents _ few (well.lists k d within));
      counted = c.requires;
      spaced = c.lists_a_start-every.ensures;
    }
