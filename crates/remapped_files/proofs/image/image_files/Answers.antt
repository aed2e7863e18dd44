use Rattle.std.proofs.Common.{arith, ap, ◌∙◌}
use Rattle.std.proofs.lemmas.Result.{err_from_is_err_and}
use Rattle.collection_model.specs.Collection.{Collection}
use Rattle.collection_model.specs.Spelling.{spelled}
use Rattle.command_model.specs.FoundMap.{remap_numbers}
use Rattle.remapped_files.proofs.ImageMade.{of-view, collection-refused, map-refused, memory-refused, image-made}
use Rattle.remapped_files.proofs.image.image_files.Goals as goal

pub returns-in_err-collection : goal.returns-in_err-collection
returns-in_err-collection g c =
    let p = err_from_is_err_and c.from_residual.result c.from_residual.ensures.1 in
    rw (p.1, p.2) (
    collection-refused (c.files_have_one_first_fault.ensures remap_numbers (omega arith)) c.args.base.now c.args.map.now c.args.to.now _ _ c.in_err-collection.field-0.0 c.in_err-collection.ensures
    )

pub returns-in_err-order : goal.returns-in_err-order
returns-in_err-order g c =
    let p = err_from_is_err_and c.from_residual-in_err-order.result c.from_residual-in_err-order.ensures.1 in
    rw (p.1, p.2) (
    map-refused (c.files_spell_one_collection.ensures remap_numbers (omega arith)) c.maps_have_one_first_fault.ensures c.args.base.now c.args.map.now c.args.to.now _ _ _
    c.in_ok-collection.collection c.in_ok-collection.ensures c.in_err-order.field-0.0
    (of-view (ap (λ (d : Collection). d.documents) c.collection.view_is) c.in_err-order.ensures)
    )

pub returns-in_err-image : goal.returns-in_err-image
returns-in_err-image g c =
    let p = err_from_is_err_and c.from_residual-in_err-image.result c.from_residual-in_err-image.ensures.1 in
    rw (p.1, p.2) (
    memory-refused (c.files_spell_one_collection.ensures remap_numbers (omega arith)) c.maps_have_one_first_fault.ensures c.args.base.now c.args.map.now c.args.to.now _ _ _
    c.in_ok-collection.collection c.in_ok-collection.ensures c.in_ok-order.order (of-view (ap (λ (d : Collection). d.documents) c.collection.view_is) c.in_ok-order.ensures)
    )

pub invariant_of-result-clause-well_formed : goal.invariant_of-result-clause-well_formed
invariant_of-result-clause-well_formed g c =
    c.image_is_well_formed.ensures remap_numbers c.in_ok-order.order c.in_ok-collection.collection c.in_ok-image.image
    (record { well_formed = c.in_ok-collection.ensures.well_formed; new_ids = c.in_ok-order.ensures.new_ids; each = c.in_ok-order.ensures.each ∙ ap (λ (d : Collection). d.documents) c.collection.view_is }) c.in_ok-image.ensures

pub returns-in_err-names_under : goal.returns-in_err-names_under
returns-in_err-names_under g c =
    let p = err_from_is_err_and c.from_residual-in_err-names_under.result c.from_residual-in_err-names_under.ensures.1 in
    rw (p.1, p.2) (
    memory-refused (c.files_spell_one_collection.ensures remap_numbers (omega arith)) c.maps_have_one_first_fault.ensures c.args.base.now c.args.map.now c.args.to.now _ _ _
    c.in_ok-collection.collection c.in_ok-collection.ensures c.in_ok-order.order (of-view (ap (λ (d : Collection). d.documents) c.collection.view_is) c.in_ok-order.ensures)
    )

pub returns-in_err-new : goal.returns-in_err-new
returns-in_err-new g c =
    let p = err_from_is_err_and c.from_residual-in_err-new.result c.from_residual-in_err-new.ensures.1 in
    rw (p.1, p.2) (
    memory-refused (c.files_spell_one_collection.ensures remap_numbers (omega arith)) c.maps_have_one_first_fault.ensures c.args.base.now c.args.map.now c.args.to.now _ _ _
    c.in_ok-collection.collection c.in_ok-collection.ensures c.in_ok-order.order (of-view (ap (λ (d : Collection). d.documents) c.collection.view_is) c.in_ok-order.ensures)
    )

pub returns : goal.returns
returns g c =
    image-made (c.files_spell_one_collection.ensures remap_numbers (omega arith)) c.maps_have_one_first_fault.ensures c.args.base.now c.args.map.now c.args.to.now _ _ _
    c.in_ok-collection.collection c.in_ok-collection.ensures c.in_ok-order.order (of-view (ap (λ (d : Collection). d.documents) c.collection.view_is) c.in_ok-order.ensures) c.in_ok-image.image _ c.in_ok-image.ensures
    (c.in_ok-names_under.ensures.under (spelled c.in_ok-image.image))
