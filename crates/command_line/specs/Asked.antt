use Rattle.command_line.specs.declared.words.Command as words
use Rattle.command_line.specs.declared.words.Command.TheVariants as word
use Rattle.command_line.specs.Command.{Command, Build, Query, Answer, Inspect, Generate, Migrate, Audit, Blocks, BlockQuery, Remap, Segments, Export, IntervalQuery, Merge, texts}

-- what a command of the words asks for, with its texts as their bytes
abbrev pub asked : words.Command → Command
asked (word.Build base index format) = Build base.now index.now format
asked (word.Query index plan) = Query index.now plan
asked (word.Answer base plan) = Answer base.now plan
asked (word.Inspect index) = Inspect index.now
asked (word.Generate seed documents terms) = Generate seed documents terms
asked (word.Migrate from to kind) = Migrate from.now to.now kind
asked (word.Audit index) = Audit index.now
asked (word.Blocks index side) = Blocks index.now side.now
asked (word.BlockQuery index side) = BlockQuery index.now side.now
asked (word.Remap base map to) = Remap base.now map.now to.now
asked (word.Segments indexes plan) = Segments (texts indexes.now) plan
asked (word.Export index base) = Export index.now base.now
asked (word.IntervalQuery index) = IntervalQuery index.now
asked (word.Merge indexes to) = Merge (texts indexes.now) to.now
