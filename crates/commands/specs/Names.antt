-- The names that most definitions and contracts of the commands cite, passed on from one place.
pub use Rattle.collection_model.specs.Collection.{Collection}
pub use Rattle.command_ends.specs.FoundIndex.{FindsIndex, FindsIndexOf}
pub use Rattle.command_ends.specs.FoundSegments.{AreJoinedTo, FindsJoined, FindsSegments}
pub use Rattle.command_ends.specs.FoundSide.{FindsSide, FindsWithSide, side_of}
pub use Rattle.command_ends.specs.Lent.{LendTheSame}
pub use Rattle.command_ends.specs.Products.{Does, File, Files, Replies, Text}
pub use Rattle.command_ends.specs.Sources.{CollectionAt, Finds, IndexAt, IndexesAt, MapAt, Nothing, SideAt, Source, Starts}
pub use Rattle.command_ends.specs.Steps.AtSource.{IsRead, IsUnread}
pub use Rattle.command_ends.specs.Steps.Leaves.{Leaves}
pub use Rattle.command_ends.specs.WordsThen.{AreBuilt, AreTooMany, BuildsWordsThen}
pub use Rattle.command_model.specs.Found.{FindsCollection, IsIndexSlot}
pub use Rattle.index_file.specs.FileWords.{ListParts}
pub use Rattle.index_file.specs.IndexView.{IndexView}
pub use Rattle.outcomes.specs.Outcome.{Outcome, done, is_refusal}
pub use Rattle.outcomes.specs.Outside.{Outside, outside}
pub use Rattle.outcomes.specs.Stops.{at_segment, stop_of_loading}
pub use Rattle.outcomes.specs.declared.stop.Stop.{Stop}
pub use Rattle.segments.specs.declared.pushed.Joining.{Joining}
pub use Rattle.segments.specs.declared.pushed.Joining.TheVariants.{Alike, Wide}
pub use Rattle.part_cost.specs.Formats.{numbers_of}
pub use Rattle.part_cost.specs.declared.formats.Format.{Format}
pub use Rattle.part_cost.specs.declared.formats.Format.TheVariants.{Three, Two}
pub use Rattle.io_traits.specs.DepotState.{DepotState, OnlyReads, WasStartedAs}
pub use Rattle.io_traits.specs.SinkState.{SinkState}
pub use Rattle.io_traits.specs.SourceState.{SourceState}
pub use Rattle.io_traits.specs.declared.fail.Slot.TheVariants.{Index, Side}
