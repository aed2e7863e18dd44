use Rattle.std.specs.Prelude.{ℕ, List}
use Rattle.part_cost.specs.Formats.{numbers_of}
use Rattle.part_directory.specs.declared.directory.Directory.{Directory}
use Rattle.sequence_words.specs.SequenceView.{SequenceView, sequence_stated}
use Rattle.part_directory.specs.Alone.{words_begun}

-- the words with which the sequence of a directory begins
abbrev pub words_of : Directory → List ℕ
words_of d = words_begun (numbers_of d.format) d.words.now d.m d.alone

-- the sequence that a directory states
abbrev pub sequence_of : Directory → SequenceView
sequence_of d = sequence_stated (numbers_of d.format) (words_of d) d.parts
