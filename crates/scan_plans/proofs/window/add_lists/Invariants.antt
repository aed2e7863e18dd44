use Rattle.std.proofs.Common.{◌≡◌, ℕ, ◌+◌, ◌*◌, ◌<◌, ◌≤◌, false, length, map, take, slice_index}
use Rattle.std.specs.List.{AllWithin, list_any, sum_by, sum, zip}
use Rattle.scan_plans.specs.Matches.{has_doc}
use Rattle.scan_plans.specs.Scan.{StandsFrom}
use Rattle.scan_plans.specs.Window.{is_marked}
use Rattle.scan_plans.proofs.Steps.{share}
use Rattle.scan_plans.proofs.window.add_lists.Given as goal

abbrev pub invariant-loop-i : goal.invariant-loop-i
invariant-loop-i g l = record {
  lists : map g.C.DocCursor.list l.cursors ≡ map g.C.DocCursor.list l.initial.cursors;
  done : AllWithin (λ c. StandsFrom (l.first + length l.initial.scores) (g.C.DocCursor.list c) (g.C.DocCursor.place c)) l.cursors 0 l.i;
  rest : AllWithin (λ c. StandsFrom l.first (g.C.DocCursor.list c) (g.C.DocCursor.place c)) l.cursors l.i (length l.cursors);
  count : length l.scores ≡ length l.initial.scores;
  scored : (k : ℕ) → k < length l.initial.scores → slice_index l.scores k ≡ sum_by (share (l.first + k)) (take l.i (zip (map g.C.DocCursor.list l.initial.cursors) l.weights));
  bound : (k : ℕ) → k < length l.initial.scores → slice_index l.scores k ≤ sum (take l.i l.weights) * 4294967295;
  marks_count : length l.marks ≡ length l.initial.marks;
  marked : (k : ℕ) → k < length l.initial.scores → is_marked l.marks k ≡ list_any (has_doc (l.first + k)) (take l.i (map g.C.DocCursor.list l.initial.cursors));
  within : l.reached ≤ length l.initial.scores;
  behind : (k : ℕ) → l.reached ≤ k → k < length l.initial.scores → is_marked l.marks k ≡ false;
}
