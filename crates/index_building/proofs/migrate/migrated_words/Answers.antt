use Rattle.part_cost.specs.Formats.{numbers_of}
use Rattle.index_building.proofs.Migrating.{collection-fits}
use Rattle.index_building.proofs.migrate.migrated_words.Goals as goal

pub collected_words-requires : goal.collected_words-requires
collected_words-requires g c =
    collection-fits (numbers_of c.args.index.now.format) (numbers_of c.args.format) c.requires c.args.index.now.collection c.stands_for_a_collection.ensures.well_formed
