use Rattle.std.proofs.Common.{◌≡◌, ◌*◌, ◌++◌, drop}
use Rattle.index_file.specs.FileWords.{sizes_words}
use Rattle.index_file.proofs.entries.push_sizes.Given as goal

abbrev pub invariant-loop-pair : goal.invariant-loop-pair
invariant-loop-pair l = l.words.items ++ sizes_words (drop (l.pair-index * 2) l.sizes) ≡ l.fn.words.items ++ sizes_words l.sizes
