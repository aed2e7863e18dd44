use Rattle.std.proofs.Common.{◌≡◌, ℕ, ◌+◌, ◌*◌, ◌<◌, ◌≤◌, length, map, take, slice_index}
use Rattle.std.specs.List.{AllWithin, sum_by, sum, zip}
use Rattle.scan_plans.specs.Scan.{HasPassed}
use Rattle.interval_max.proofs.Scores.{share}
use Rattle.interval_max.proofs.run.add_all.Given as goal

abbrev pub invariant-loop-i : goal.invariant-loop-i
invariant-loop-i g l = record {
  lists : map g.C.DocCursor.list l.cursors ≡ map g.C.DocCursor.list l.initial.cursors;
  done : AllWithin (λ c. HasPassed (l.first + length l.initial.scores) (g.C.DocCursor.list c) (g.C.DocCursor.place c)) l.cursors 0 l.i;
  rest : AllWithin (λ c. HasPassed l.first (g.C.DocCursor.list c) (g.C.DocCursor.place c)) l.cursors l.i (length l.cursors);
  count : length l.scores ≡ length l.initial.scores;
  scored : (k : ℕ) → k < length l.initial.scores → slice_index l.scores k ≡ sum_by (share (l.first + k)) (take l.i (zip (map g.C.DocCursor.list l.initial.cursors) l.weights));
  bound : (k : ℕ) → k < length l.initial.scores → slice_index l.scores k ≤ sum (take l.i l.weights) * 4294967295;
  marks_count : length l.marks ≡ length l.initial.marks;
}
