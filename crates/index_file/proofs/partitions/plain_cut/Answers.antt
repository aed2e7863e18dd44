use Rattle.std.proofs.Common.{length}
use Rattle.std.proofs.lemmas.Result.{IfOk-weaker}
use Rattle.collection_model.specs.FormatNumbers.{part_charge}
use Rattle.part_cost.specs.Formats.{numbers_of}
use Rattle.part_cost.specs.Span.{cost_of_part}
use Rattle.part_cost.specs.Partition.{IsNear}
use Rattle.part_cost.specs.StoredBits.{IsNearStored}
use Rattle.partition_path.specs.FoundCuts.{FoundCuts}
use Rattle.index_file.proofs.partitions.plain_cut.Goals as goal

pub returns-clause-near : goal.returns-clause-near
returns-clause-near g c =
    let format = c.args.format in
    let xs = c.args.values.now in
    let law = c.near_is_near_of_all.ensures.near (numbers_of format) (c.formats_have_room.ensures format) xs c.requires.rising c.requires.below in
    let stored = c.near_is_near_stored.ensures.plain (numbers_of format) c.requires.plain xs in
    IfOk-weaker c.list_partition.result (λ cuts. IsNear (numbers_of format).limit (cost_of_part (part_charge (numbers_of format)) xs) (length xs) cuts.ends) (λ cuts. IsNearStored (numbers_of format) xs cuts.ends)
    (λ (cuts : FoundCuts) near. stored cuts.ends (record { near = near; of_all = law cuts.ends near })) c.list_partition.ensures.near
