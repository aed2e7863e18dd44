use Rattle.std.proofs.Common.{◌≡◌, ◌-◌, length}
use Rattle.interval_max.specs.Peaks.{ArePeaksTo}
use Rattle.interval_max.proofs.peaks.take_peaks.Given as goal

abbrev pub invariant-loop-docs : goal.invariant-loop-docs
invariant-loop-docs g l = record {
  list : g.C.DocCursor.list l.cursor ≡ g.C.DocCursor.list l.initial.cursor;
  peaks : ArePeaksTo (g.C.DocCursor.list l.initial.cursor) (g.C.DocCursor.place l.cursor) l.peaks.items;
  docs : length l.docs ≡ 128;
  freqs : length l.freqs ≡ 128;
}

abbrev pub decreases-loop-docs : goal.decreases-loop-docs
decreases-loop-docs g l = length (g.C.DocCursor.list l.cursor) - g.C.DocCursor.place l.cursor
