-- The names that most proofs cite, passed on from one place.
pub use Rattle.collection_model.specs.Collection.{Collection}
pub use Rattle.command_ends.specs.AnsweredText.{AnswersAll, AnswersInput}
pub use Rattle.command_ends.specs.FoundIndex.{FindsIndexOf}
pub use Rattle.command_ends.specs.FoundSegments.{FindsJoined, FindsSegments}
pub use Rattle.command_ends.specs.Lent.{devices}
pub use Rattle.command_ends.specs.PrintedText.{PrintsText}
pub use Rattle.command_ends.specs.Products.{Does}
pub use Rattle.command_ends.specs.Sources.{CollectionAt, EndsAt, Finds, IndexAt, IndexesAt, MapAt, SideAt, Source}
pub use Rattle.command_ends.specs.Steps.Leaves.{Leaves}
pub use Rattle.command_ends.specs.WrittenFile.{WritesFile}
pub use Rattle.command_line.specs.Command.{command_of, texts}
pub use Rattle.commands.specs.Files.{Exports, MakesIndex, OnSideBytes, WritesCollection, WritesImage, migrate_format}
pub use Rattle.commands.specs.Replies.{MakesAnswers, Queries}
pub use Rattle.commands.specs.Texts.{IsInspection, MakesGeneration, PrintsFoundAudit}
pub use Rattle.outcomes.specs.Outside.{Told, outside}
pub use Rattle.outcomes.specs.Stops.{stop_of_words}
pub use Rattle.outcomes.specs.declared.stop.Stop.{Stop}
pub use Rattle.outcomes.specs.declared.stop.Stop.TheVariants.{FileFault, NoMemory, Usage}
pub use Rattle.io_traits.specs.SourceState.{SourceState}
pub use Rattle.pef_top.specs.Commands.{IsUsage, Performs}
pub use Rattle.part_cost.specs.declared.formats.Format.TheVariants.{Three}
pub use Rattle.pef_top.specs.Names.{Alike, Answer, Audit, Blocks, Build, Command, DepotState, Export, Generate, Inspect, Merge, Migrate, Outcome, Outside, Query, Remap, Side, SinkState, Wide, done}
pub use Rattle.pef_top.specs.SourceAndProduct.{product_of, source_of}
pub use Rattle.pef_top.specs.Starts.{Starts}
pub use Rattle.pef_top.specs.Uncalled.{Accepts, LeavesUncalled}
