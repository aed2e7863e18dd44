use Rattle.std.proofs.Common.{◌≡◌, ℕ, ◌+◌, ◌-◌, ◌*◌, ◌<◌, ◌≤◌, false, length, map, take, slice_index}
use Rattle.std.specs.List.{All}
use Rattle.scan_plans.specs.Scan.{HasPassed}
use Rattle.scan_plans.specs.Window.{is_marked}
use Rattle.topk_pruning.specs.Terms.{AreKept, in_lists, score_in}
use Rattle.topk_pruning.proofs.candidates.add_terms.Given as goal

abbrev pub invariant-loop-place : goal.invariant-loop-place
invariant-loop-place g l = record {
  few : l.place ≤ length l.terms.all.now;
  lists : map g.C.DocCursor.list l.cursors ≡ map g.C.DocCursor.list l.initial.cursors;
  passed : All (λ c. HasPassed (l.first + length l.initial.scores) (g.C.DocCursor.list c) (g.C.DocCursor.place c)) l.cursors;
  kept : AreKept (take l.place l.terms.all.now) l.initial.cursors l.cursors;
  count : length l.scores ≡ length l.initial.scores;
  marks_count : length l.marks ≡ length l.initial.marks;
  scored : (k : ℕ) → k < length l.initial.scores → slice_index l.scores k ≡ score_in (map g.C.DocCursor.list l.initial.cursors) (l.first + k) (take l.place l.terms.all.now);
  marked : (k : ℕ) → k < length l.initial.scores → is_marked l.marks k ≡ in_lists (map g.C.DocCursor.list l.initial.cursors) (l.first + k) (take l.place l.terms.all.now);
  within : l.reached ≤ length l.initial.scores;
  behind : (k : ℕ) → l.reached ≤ k → k < 64 * length l.initial.marks → is_marked l.marks k ≡ false;
}

abbrev pub decreases-loop-place : goal.decreases-loop-place
decreases-loop-place g l = length l.terms.all.now - l.place
