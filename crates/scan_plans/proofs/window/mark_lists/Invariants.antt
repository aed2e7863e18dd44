use Rattle.std.proofs.Common.{◌≡◌, ℕ, ◌+◌, ◌*◌, ◌<◌, ◌≤◌, false, length, map, take}
use Rattle.std.specs.List.{AllWithin, list_any}
use Rattle.scan_plans.specs.Matches.{has_doc}
use Rattle.scan_plans.specs.Scan.{StandsFrom}
use Rattle.scan_plans.specs.Window.{is_marked}
use Rattle.scan_plans.proofs.window.mark_lists.Given as goal

abbrev pub invariant-loop-cursor : goal.invariant-loop-cursor
invariant-loop-cursor g l = record {
  lists : map g.C.DocCursor.list l.cursors ≡ map g.C.DocCursor.list l.initial.cursors;
  done : AllWithin (λ c. StandsFrom (l.first + 64 * length l.initial.marks) (g.C.DocCursor.list c) (g.C.DocCursor.place c)) l.cursors 0 l.cursor-index;
  rest : AllWithin (λ c. StandsFrom l.first (g.C.DocCursor.list c) (g.C.DocCursor.place c)) l.cursors l.cursor-index (length l.cursors);
  count : length l.marks ≡ length l.initial.marks;
  marked : (k : ℕ) → k < 64 * length l.initial.marks → is_marked l.marks k ≡ list_any (has_doc (l.first + k)) (take l.cursor-index (map g.C.DocCursor.list l.initial.cursors));
  within : l.reached ≤ 64 * length l.initial.marks;
  behind : (k : ℕ) → l.reached ≤ k → k < 64 * length l.initial.marks → is_marked l.marks k ≡ false;
}
