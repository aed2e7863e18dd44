-- What each command makes of its source, as one table.
use Rattle.std.proofs.Common.{Some}
use Rattle.pef_top.proofs.Names.{Command, Build, Answer, Inspect, Generate, Merge, Migrate, Audit, Blocks, Remap, Export, Outside, Outcome, AnswersInput, PrintsText, WritesFile, Does, DepotState, Side, OnSideBytes, migrate_format, IsInspection, MakesGeneration, Performs, product_of, source_of, CollectionAt, Finds, IndexAt, IndexesAt, Wide, MakesIndex, WritesCollection, WritesImage, MakesAnswers, PrintsFoundAudit}
use Rattle.part_cost.specs.Formats.{numbers_of}
use Rattle.part_cost.specs.declared.formats.Format.TheVariants.{Three}

-- of a source in this depot
abbrev pub Makes : Command → DepotState → Outside → Outside → Outcome → Type 0
Makes (Build base index format) depot = MakesIndex (CollectionAt (numbers_of format) base) format index
Makes (Answer base plan) depot = MakesAnswers base
Makes (Inspect index) depot = PrintsText (IsInspection index depot)
Makes (Generate seed n t) depot = MakesGeneration seed n t
Makes (Migrate from to kind) depot = MakesIndex (IndexAt from) (migrate_format kind) to
Makes (Merge indexes to) depot = MakesIndex (IndexesAt Wide indexes) Three to
Makes (Audit index) depot = PrintsFoundAudit index
Makes (Blocks index side) depot = WritesFile Side side (OnSideBytes index depot)
Makes (Remap base map to) depot = WritesImage base map to
Makes (Export index base) depot = WritesCollection index base
Makes command depot = AnswersInput (Finds (source_of command) depot)

-- what a command promises says so
pub does_of : (command : Command) (old new : Outside) (outcome : Outcome) → Performs (Some command) old new outcome
    → Does (source_of command) (product_of command) (Makes command old.depot) old new outcome
does_of (Answer base plan) old new outcome h = h
does_of (Generate seed n t) old new outcome h = h
does_of command old new outcome h = h.does
