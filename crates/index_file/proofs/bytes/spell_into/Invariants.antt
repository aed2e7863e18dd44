use Rattle.std.proofs.Common.{◌≡◌, ◌*◌, take}
use Rattle.collection_model.specs.Bytes.{word_bytes}
use Rattle.index_file.proofs.bytes.spell_into.Given as goal

abbrev pub invariant-loop-word : goal.invariant-loop-word
invariant-loop-word l = (l.at ≡ 8 * l.word-index) × (take l.at l.piece ≡ word_bytes (take l.word-index l.words))
