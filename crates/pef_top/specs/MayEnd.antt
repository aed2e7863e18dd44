use Rattle.std.specs.Prelude.{IsTrue, Some, Err, ◌⊎◌, ⊤, Ok}
use Rattle.pef_top.specs.Names.{Index, Side, Command, Outside, Outcome, Source, IndexAt, IndexesAt, SideAt, Product, WritesTo, builds_words, prints, reads_input, ReadsFrom, IsIndexSlot, BrokenCollection, BrokenIndex, BrokenSide, BrokenMap, FileFault, InputFault, WriteFault, OutFault, NoMemory, TooLarge, InputTooLarge, BrokenSegment, UnfitSegment, Docs, Map}
use Rattle.command_ends.specs.FoundSide.{IsIndexOrSide}
use Rattle.pef_top.specs.Commands.{Performs}
use Rattle.pef_top.specs.SourceAndProduct.{product_of, source_of}

-- Which outcomes may come of the reading of a source.
abbrev pub MayEndAt : Source → Outcome → Type 0
MayEndAt source (Err (BrokenCollection fault)) = ReadsFrom source Docs
MayEndAt (IndexesAt joining names) (Err (BrokenIndex fault)) = ⊥
MayEndAt source (Err (BrokenIndex fault)) = ReadsFrom source Index
MayEndAt source (Err (BrokenSide fault)) = ReadsFrom source Side
MayEndAt source (Err (BrokenMap fault)) = ReadsFrom source Map
MayEndAt (IndexesAt joining names) (Err (BrokenSegment fault segment)) = ⊤
MayEndAt (IndexesAt joining names) (Err (UnfitSegment rule segment)) = ⊤
MayEndAt source (Err (FileFault slot)) = ReadsFrom source slot
MayEndAt (IndexAt name) (Err (TooLarge slot)) = IsIndexSlot slot
MayEndAt (SideAt index side) (Err (TooLarge slot)) = IsIndexOrSide slot
MayEndAt (IndexesAt joining names) (Err (TooLarge slot)) = IsIndexSlot slot
MayEndAt source outcome = ⊥

-- Which outcomes may come of the making of a product.
abbrev pub MayMake : Source → Product → Outcome → Type 0
MayMake source product (Ok u) = ⊤
MayMake source product (Err InputFault) = IsTrue (reads_input product)
MayMake source product (Err (WriteFault slot)) = WritesTo product slot
MayMake source product (Err OutFault) = IsTrue (prints product)
MayMake source product (Err NoMemory) = ⊤
MayMake source product (Err (TooLarge slot)) =
    IsIndexSlot slot × IsTrue (builds_words source product)
MayMake source product (Err InputTooLarge) = IsTrue (reads_input product)
MayMake source product outcome = ⊥

-- Which outcomes a command may have.
abbrev pub MayEnd : Command → Outcome → Type 0
MayEnd command outcome =
    MayEndAt (source_of command) outcome ⊎ MayMake (source_of command) (product_of command) outcome

-- A command ends as the table says.
abbrev pub EndsByTheTable : Type 0
EndsByTheTable =
    (command : Command) (old new : Outside) (outcome : Outcome)
    → Performs (Some command) old new outcome → MayEnd command outcome
