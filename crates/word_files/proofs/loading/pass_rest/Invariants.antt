use Rattle.std.proofs.Common.{◌≡◌, ◌-◌, ◌≤◌, length}
use Rattle.index_file.specs.Builder.{most_words}
use Rattle.word_files.proofs.LoadedWords.{HasPassed}
use Rattle.word_files.proofs.loading.pass_rest.Given as goal

abbrev pub invariant-loop-words : goal.invariant-loop-words
invariant-loop-words g l = record {
  room : length l.piece ≡ 8192;
  few : l.passed ≤ most_words;
  read : HasPassed l.slot l.held l.passed (g.D.Depot.state l.fn.depot) (g.D.Depot.state l.depot);
}

abbrev pub decreases-loop-words : goal.decreases-loop-words
decreases-loop-words g l = most_words - l.passed
