use Rattle.std.proofs.Common.{◌≡◌, ◌∷◌, take}
use Rattle.block_max.specs.SideWords.{block_freqs, side_opening}
use Rattle.block_max.proofs.side.side_words.Given as goal

abbrev pub invariant-loop-term : goal.invariant-loop-term
invariant-loop-term g l = l.words.items ≡ side_opening ∷ 1 ∷ block_freqs (take l.term (g.S.BlockSource.lists l.source))
