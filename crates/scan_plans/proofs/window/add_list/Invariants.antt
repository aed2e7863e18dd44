use Rattle.std.proofs.Common.{◌≡◌, ℕ, ◌+◌, ◌-◌, ◌*◌, ◌<◌, ◌≤◌, ◌||◌, true, length, slice_index}
use Rattle.collection_model.specs.Collection.{docs_of, freqs_of}
use Rattle.scan_plans.specs.Window.{AreGiven, is_marked}
use Rattle.scan_plans.proofs.window.add_list.Given as goal

abbrev pub invariant-loop-reached : goal.invariant-loop-reached
invariant-loop-reached g l = record {
  list : g.C.DocCursor.list l.cursor ≡ g.C.DocCursor.list l.initial.cursor;
  from : g.C.DocCursor.place l.initial.cursor ≤ g.C.DocCursor.place l.cursor;
  count : length l.scores ≡ length l.initial.scores;
  given : AreGiven ◌+◌ l.first (docs_of (g.C.DocCursor.list l.initial.cursor)) (λ i. l.weight * slice_index (freqs_of (g.C.DocCursor.list l.initial.cursor)) i) (g.C.DocCursor.place l.initial.cursor) (g.C.DocCursor.place l.cursor) (slice_index l.initial.scores) (slice_index l.scores);
  marks_count : length l.marks ≡ length l.initial.marks;
  marked : AreGiven ◌||◌ l.first (docs_of (g.C.DocCursor.list l.initial.cursor)) (λ _. true) (g.C.DocCursor.place l.initial.cursor) (g.C.DocCursor.place l.cursor) (is_marked l.initial.marks) (is_marked l.marks);
  within : l.reached ≤ length l.initial.scores;
  below : (i : ℕ) → g.C.DocCursor.place l.initial.cursor ≤ i → i < g.C.DocCursor.place l.cursor → slice_index (docs_of (g.C.DocCursor.list l.initial.cursor)) i < l.first + l.reached;
}

abbrev pub decreases-loop-reached : goal.decreases-loop-reached
decreases-loop-reached g l = length (g.C.DocCursor.list l.cursor) - g.C.DocCursor.place l.cursor
