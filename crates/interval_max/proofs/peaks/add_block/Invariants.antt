use Rattle.std.proofs.Common.{◌≡◌, ℕ, ◌+◌, ◌≤◌, List, [], ◌∷◌, ◌++◌, take, length}
use Rattle.collection_model.specs.Collection.{Posting}
use Rattle.interval_max.specs.Peaks.{ArePeaksTo, ArePostingsFrom}
use Rattle.interval_max.proofs.peaks.add_block.Given as goal

abbrev pub invariant-loop-j : goal.invariant-loop-j
invariant-loop-j l = record {
  few : l.count ≤ l.j;
  room : length l.found ≡ 128;
  peaks : (list : List Posting) (from : ℕ) → ArePostingsFrom list from l.docs l.freqs → ArePeaksTo list from l.fn.peaks.items → ArePeaksTo list (from + l.j) ((l.peaks.items ++ take l.count l.found) ++ l.last ∷ []);
}
