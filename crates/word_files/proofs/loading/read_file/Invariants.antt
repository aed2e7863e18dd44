use Rattle.std.proofs.Common.{◌≡◌, ◌-◌, ◌≤◌, ◌⊎◌, length}
use Rattle.index_file.specs.Builder.{most_words}
use Rattle.word_files.specs.LoadWords.{BeginWithOne}
use Rattle.word_files.specs.ReadWords.{HasWords}
use Rattle.word_files.proofs.loading.read_file.Given as goal

abbrev pub invariant-loop-words : goal.invariant-loop-words
invariant-loop-words g l = record {
  room : length l.piece.items ≡ 8192;
  few : length l.words.items ≤ most_words;
  read : HasWords l.slot (g.D.Depot.state l.fn.depot) (g.D.Depot.state l.depot) l.words.items;
  begun : (length l.words.items ≡ 0) ⊎ BeginWithOne l.openings l.words.items;
}

abbrev pub decreases-loop-words : goal.decreases-loop-words
decreases-loop-words g l = most_words - length l.words.items
