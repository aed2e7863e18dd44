use Rattle.std.proofs.Common.{List, ℕ}
use Rattle.collection_model.specs.Marks.{AreKept}
use Rattle.ranked_bitmap.specs.MapView.{Holds}
use Rattle.ranked_bitmap.proofs.MapView.keep_in_words.Given as goal

abbrev pub invariant-loop-i : goal.invariant-loop-i
invariant-loop-i g l = (ys : List ℕ) → Holds g.row.B l.self ys → AreKept ys l.from l.initial.marks l.marks l.i
