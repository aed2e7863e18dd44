-- The names that most definitions cite, passed on from one place.
pub use Rattle.command_ends.specs.Products.{File, Files, Product, Replies, Text, WritesTo, builds_words, prints, reads_input}
pub use Rattle.command_ends.specs.Sources.{CollectionAt, IndexAt, IndexesAt, MapAt, Nothing, ReadsFrom, SideAt, Source}
pub use Rattle.command_ends.specs.declared.devices.Devices.{Devices}
pub use Rattle.command_line.specs.Command.{Answer, Audit, BlockQuery, Blocks, Build, Command, Export, Generate, Inspect, IntervalQuery, Merge, Migrate, Query, Remap, Segments, command_of, texts}
pub use Rattle.command_model.specs.Found.{FindsCollection, IsIndexSlot}
pub use Rattle.commands.specs.Files.{Builds, Exports, Merges, Migrates, Remaps, WritesBlocks, migrate_format}
pub use Rattle.commands.specs.Replies.{Answers, AnswersSegments, Queries, QueriesBlocks, answer_format}
pub use Rattle.outcomes.specs.Outcome.{Outcome, done, is_refusal, line_of, status_of}
pub use Rattle.outcomes.specs.Outside.{GotText, Outside, Told, outside}
pub use Rattle.outcomes.specs.declared.status.Status.{Status}
pub use Rattle.outcomes.specs.declared.stop.Stop.TheVariants.{BrokenCollection, BrokenIndex, BrokenMap, BrokenSegment, BrokenSide, FileFault, InputFault, InputTooLarge, NoMemory, OutFault, TooLarge, UnfitSegment, Usage, WriteFault}
pub use Rattle.segments.specs.declared.pushed.Joining.TheVariants.{Alike, Wide}
pub use Rattle.part_cost.specs.Formats.{numbers_of}
pub use Rattle.io_traits.specs.DepotState.{DepotState}
pub use Rattle.io_traits.specs.SinkState.{SinkState}
pub use Rattle.io_traits.specs.declared.fail.Slot.TheVariants.{Docs, Index, Map, Side}
