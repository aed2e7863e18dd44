use Rattle.std.proofs.Common.{◌≡◌, ℕ, ◌+◌, ◌*◌, ◌<◌, ◌≤◌, ◌&&◌, length, take}
use Rattle.std.specs.List.{list_all}
use Rattle.scan_plans.specs.Matches.{has_doc}
use Rattle.scan_plans.specs.Window.{is_marked}
use Rattle.scan_plans.proofs.docs.keep_in_all.Given as goal

abbrev pub invariant-loop-cursor : goal.invariant-loop-cursor
invariant-loop-cursor g l = record {
  within : l.words ≤ l.most;
  count : length l.marks ≡ length l.initial.marks;
  kept : (k : ℕ) → k < 64 * l.words → is_marked l.marks k ≡ (is_marked l.initial.marks k && list_all (λ c. has_doc (l.first + k) (g.C.DocCursor.list c)) (take l.cursor-index l.cursors));
}
