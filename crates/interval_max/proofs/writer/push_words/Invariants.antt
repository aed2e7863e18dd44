use Rattle.std.proofs.Common.{◌≡◌, ◌++◌, take}
use Rattle.collection_model.specs.Bytes.{word_bytes}
use Rattle.interval_max.proofs.writer.push_words.Given as goal

abbrev pub invariant-loop-word : goal.invariant-loop-word
invariant-loop-word l = l.bytes.items ≡ l.initial.bytes.items ++ word_bytes (take l.word-index l.words)
