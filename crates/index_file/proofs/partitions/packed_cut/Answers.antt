use Rattle.std.proofs.Common.{refl, sym, subst, ℕ, ◌⊎◌, inl, inr, List, length}
use Rattle.std.proofs.lemmas.Result.{IfOk-weaker}
use Rattle.collection_model.specs.FormatNumbers.{format_three}
use Rattle.part_cost.specs.declared.formats.Format.TheVariants.{Three}
use Rattle.part_cost.specs.Span.{payload_of_part}
use Rattle.part_cost.specs.StoredBits.{IsNearStored}
use Rattle.partition_path.specs.FoundCuts.{AreBelowWhole, FoundCuts, IsWhole}
use Rattle.index_file.proofs.partitions.packed_cut.Goals as goal

pub returns-clause-near : goal.returns-clause-near
returns-clause-near g c =
    let xs = c.args.values.now in
    let law = c.near_is_near_of_all.ensures in
    let room = c.formats_have_room.ensures Three in
    let near = c.near_is_near_stored.ensures in
    let stored : (cuts : FoundCuts) → AreBelowWhole format_three xs cuts.ends ⊎ IsWhole format_three xs cuts.ends → IsNearStored format_three xs cuts.ends =
    (λ cuts either. elim either [
      | inl parts ↦ near.packed format_three refl xs cuts.ends (record { near = parts.near; of_all = law.near format_three room xs c.requires.rising c.requires.below cuts.ends parts.near }) parts.below
      | inr whole ↦ subst (λ (x : List ℕ). IsNearStored format_three xs x) (sym whole.one) (near.one_part format_three refl xs whole.some (record { near = whole.near; of_all = law.cheap format_three room xs c.requires.rising c.requires.below (payload_of_part xs 0 (length xs)) whole.near }))
    ]) in
    IfOk-weaker c.list_partition_or_whole.result (λ cuts. AreBelowWhole format_three xs cuts.ends ⊎ IsWhole format_three xs cuts.ends) (λ cuts. IsNearStored format_three xs cuts.ends) stored c.list_partition_or_whole.ensures.either
