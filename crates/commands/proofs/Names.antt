-- The names that most proofs cite, passed on from one place.
use Rattle.std.proofs.Common.{◌≡◌, sym, subst, ℕ, List}
pub use Rattle.block_max.specs.Blocks.{BlockList}
pub use Rattle.block_max.specs.SideFaults.{IsFirstSideFault}
pub use Rattle.block_max.specs.SideWords.{side_opening, side_words}
pub use Rattle.block_max.specs.declared.fault.SideFault.{SideFault}
pub use Rattle.collection_model.specs.Bytes.{word_bytes}
pub use Rattle.collection_model.specs.Spelling.{spelled}
pub use Rattle.collection_reader.specs.declared.fault.Fault.{Fault}
pub use Rattle.command_ends.proofs.FileWritten.{Written, file_written, not_refusal, only_read, stands_written}
pub use Rattle.command_ends.proofs.IndexRead.{index_laws, is_even, is_ragged}
pub use Rattle.command_ends.proofs.SourceRead.{Laws, comes_to, ended_there, nothing_read, nothing_starts, promised, read_no_memory, refuses_none, still_read, stops, too_many, unread}
pub use Rattle.command_ends.proofs.TextMade.{Answer, Printed, answers_input, no_print_refuses, prints, source_answered, text_answered, text_printed, where_done}
pub use Rattle.command_ends.proofs.WordsLoaded.{even, short}
pub use Rattle.command_ends.specs.AnsweredText.{AnswersInput, longest_text}
pub use Rattle.command_ends.specs.FoundSegments.{AreJoinedTo, FindsJoined, FindsSegments, IsFrequentAt, IsUnfit, OnSegment, no_collection}
pub use Rattle.command_ends.specs.FoundSide.{FindsWithSide, HasBrokenSide, IsFirstSideFaultOfFile, IsIndexOrSide, IsSideSlot, names_with_side, side_of}
pub use Rattle.command_ends.specs.PrintedText.{PrintsText}
pub use Rattle.command_ends.specs.Products.{File, Product, Replies, Text}
pub use Rattle.command_ends.specs.SegmentStarts.{ComesTo, IsSegmentCount, StartedUnder, StartsInTurn, raised}
pub use Rattle.command_ends.specs.Sources.{Accepts, EndsAt, Finds, IsRefusedAs, Nothing, Source, Stands}
pub use Rattle.command_ends.specs.Starts.{StartsOnly}
pub use Rattle.command_ends.specs.Steps.AtSource.{IsRead, IsStill, IsUnread, was_read}
pub use Rattle.command_ends.specs.Steps.LoadedIndex.{IsLoaded, IsUnloaded}
pub use Rattle.command_ends.specs.WordsThen.{AreTooMany}
pub use Rattle.command_line.specs.Command.{texts}
pub use Rattle.command_line.specs.declared.words.FileKind.TheVariants.{Packed, Plain}
pub use Rattle.command_model.specs.FilesWritten.{AreApart, AreWritten, NamedFile}
pub use Rattle.command_model.specs.Found.{AreOfWords, most_bytes}
pub use Rattle.command_model.specs.FoundMap.{OnImageFiles, files_under, remap_numbers}
pub use Rattle.commands.specs.Files.{Builds, Exports, MakesIndex, Merges, Migrates, OnFilesOf, OnSideBytes, Remaps, Rewrites, WritesBlocks, WritesCollection, WritesImage, migrate_format}
pub use Rattle.commands.specs.Names.{Alike, AreBuilt, Collection, CollectionAt, DepotState, Does, FindsCollection, FindsIndex, FindsIndexOf, Format, Index, IndexAt, IndexView, IndexesAt, IsIndexSlot, Joining, Leaves, ListParts, MapAt, Outcome, Outside, Side, SideAt, SinkState, SourceState, Starts, Stop, Three, Two, Wide, done, numbers_of, outside}
pub use Rattle.commands.specs.Private.LoadedSide.{IsLoadedSide, IsNoSide, IsUnloadedSide, ragged_side, stop_of_side}
pub use Rattle.commands.specs.Private.ReadSegments.{AreAccepted, AreLoaded, IsAccepted, IsRejected, pushed_of, rule_at}
pub use Rattle.commands.specs.Replies.{Answers, AnswersFrom, IsBuiltFrom, MakesAnswers, answer_format}
pub use Rattle.commands.specs.Texts.{Generates, IsGeneration, IsInspection, MakesGeneration, PrintsFoundAudit, generate_format}
pub use Rattle.index_blocks.specs.BlockLists.{block_lists, blocks_of_index}
pub use Rattle.index_building.specs.WordsOfCollection.{AreWordsOf, HoldsAllOf, WouldBeTooMany}
pub use Rattle.index_building.specs.WordsOfFiles.{BuildsWords}
pub use Rattle.index_building.specs.declared.build.BuildError.{BuildError}
pub use Rattle.index_file.proofs.FittingFiles.{fits-file}
pub use Rattle.index_file.specs.Builder.{most_words}
pub use Rattle.index_file.specs.FileWords.{IsIndex, Spells, file_words}
pub use Rattle.index_file.specs.Laws.{OneBrokenCheck, OneIndex, WordsAreRead}
pub use Rattle.index_reading.specs.JoinedIndexes.{collections_of}
pub use Rattle.outcomes.proofs.Counted.{Of, not_both_lengths, second, stays}
pub use Rattle.outcomes.proofs.Told.{handed_on, told_ok}
pub use Rattle.outcomes.specs.Ends.{EndsByFault}
pub use Rattle.outcomes.specs.Outcome.{fault_of}
pub use Rattle.outcomes.specs.Outside.{OfFile}
pub use Rattle.outcomes.specs.Stops.{at_segment, outcome_by, stop_of_answering, stop_of_building, stop_of_file, stop_of_image, stop_of_making, stop_of_printing, stop_of_writing}
pub use Rattle.outcomes.specs.declared.stop.Stop.TheVariants.{BrokenCollection, BrokenIndex, BrokenMap, BrokenSegment, BrokenSide, FileFault, NoMemory, TooLarge, UnfitSegment}
pub use Rattle.part_cost.specs.declared.formats.Format.TheVariants.{One}
pub use Rattle.io_traits.proofs.OnlyReads.{OnlyReads-trans, OnlyReads-wider}
pub use Rattle.io_traits.specs.DepotState.{OnlyReads, WasStartedAs, bytes_under}
pub use Rattle.io_traits.specs.declared.fail.Slot.{Slot}
pub use Rattle.pef_report.specs.Generated.{generated}
pub use Rattle.remapped_files.specs.MakeImage.{MakesImage}
pub use Rattle.remapped_files.specs.declared.image.ImageError.{ImageError}
pub use Rattle.segments.specs.Joined.{CanJoin, FitTogether, documents_in, joined, joined_wide, most_joined, terms_in}
pub use Rattle.segments.specs.Segments.{Pushed, none_pushed, with_segment}
pub use Rattle.segments.specs.declared.pushed.SegRule.{SegRule}
pub use Rattle.segments.specs.declared.pushed.SegRule.TheVariants.{G1, G2, G3}
pub use Rattle.text_replies.specs.AnswerText.{AnswersText}
pub use Rattle.word_files.specs.LoadWords.{LoadsKept, LoadsWords}
pub use Rattle.word_files.specs.WriteFile.{WritesWords}
pub use Rattle.word_files.specs.declared.loading.LoadWordsError.{LoadWordsError}

-- the index that one lends which was loaded
pub loaded_as : (name : List ℕ) (d d' : DepotState) (opened index : IndexView) → IsLoaded name d d' opened → index ≡ opened → IsLoaded name d d' index
loaded_as name d d' opened index w is = subst (IsLoaded name d d') (sym is) w
