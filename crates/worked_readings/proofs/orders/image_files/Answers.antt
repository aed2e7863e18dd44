use Rattle.collection_model.specs.FormatNumbers.{format_two}
use Rattle.worked_readings.proofs.orders.image_files.Goals as goal

pub spell_docs-requires : goal.spell_docs-requires
spell_docs-requires c = c.image_is_well_formed.ensures format_two c.args.order.now c.args.collection.now c.in_ok-image.image (record { well_formed = c.requires.well_formed; new_ids = c.gives_new_ids.ensures.new_ids; each = c.requires.each }) c.in_ok-image.ensures

pub spell_freqs-requires : goal.spell_freqs-requires
spell_freqs-requires c = c.image_is_well_formed.ensures format_two c.args.order.now c.args.collection.now c.in_ok-image.image (record { well_formed = c.requires.well_formed; new_ids = c.gives_new_ids.ensures.new_ids; each = c.requires.each }) c.in_ok-image.ensures

pub spell_sizes-requires : goal.spell_sizes-requires
spell_sizes-requires c = c.image_is_well_formed.ensures format_two c.args.order.now c.args.collection.now c.in_ok-image.image (record { well_formed = c.requires.well_formed; new_ids = c.gives_new_ids.ensures.new_ids; each = c.requires.each }) c.in_ok-image.ensures
