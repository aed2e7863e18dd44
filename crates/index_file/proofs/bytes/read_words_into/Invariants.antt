use Rattle.std.proofs.Common.{◌≡◌, ◌*◌, length, take}
use Rattle.collection_model.specs.Bytes.{word_bytes}
use Rattle.index_file.proofs.bytes.read_words_into.Given as goal

abbrev pub invariant-loop-k : goal.invariant-loop-k
invariant-loop-k l = record {
  long : length l.room ≡ length l.pieces;
  read : word_bytes (take l.k l.room) ≡ take (l.k * 8) l.bytes;
}
