use Rattle.std.proofs.Common.{arith}
use Rattle.commands.proofs.Names.{Two, remap_numbers}
use Rattle.commands.proofs.CollectionRead.{collection_laws}
use Rattle.commands.proofs.FilesMade.{files_apart, move_refused, move_ended}
use Rattle.commands.proofs.MapRead.{map_laws}
use Rattle.commands.proofs.remapping.remap.Goals as goal

pub returns-in_err-files : goal.returns-in_err-files
returns-in_err-files g c = λ i o e e' costs.
    let laws = map_laws c.args.base.now c.args.map.now (collection_laws c.files_have_one_first_fault.ensures c.spelled_files_have_no_fault.ensures Two c.args.base.now)
    (c.files_spell_one_collection.ensures remap_numbers (omega arith)) c.maps_have_one_first_fault.ensures in
    move_refused c.args.base.now c.args.map.now c.args.to.now _ _ laws i o e e' costs c.from_residual.result (rw c.in_err-files.was at c.image_files.ensures) c.from_residual.ensures.1

pub write_image-requires : goal.write_image-requires
write_image-requires g c = files_apart c.args.base.now c.args.map.now c.args.to.now _ _ (rw c.in_ok-files.was at c.image_files.ensures)

pub returns : goal.returns
returns g c = λ i o e e' costs.
    let laws = map_laws c.args.base.now c.args.map.now (collection_laws c.files_have_one_first_fault.ensures c.spelled_files_have_no_fault.ensures Two c.args.base.now)
    (c.files_spell_one_collection.ensures remap_numbers (omega arith)) c.maps_have_one_first_fault.ensures in
    move_ended c.args.base.now c.args.map.now c.args.to.now _ _ laws i o e e' costs c.image_is_well_formed.ensures _ _ c.write_image.result
    c.after_writing_files.result (rw c.in_ok-files.was at c.image_files.ensures) c.write_image.ensures c.after_writing_files.ensures
