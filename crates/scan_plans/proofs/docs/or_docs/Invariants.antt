use Rattle.std.proofs.Common.{◌≡◌, ℕ, ◌-◌, ◌<◌, ◌≤◌, map, length}
use Rattle.std.specs.List.{All, sum_by}
use Rattle.scan_plans.specs.Matches.{in_any}
use Rattle.scan_plans.specs.Scan.{StandsFrom}
use Rattle.scan_plans.proofs.docs.or_docs.Given as goal

abbrev pub invariant-loop-first : goal.invariant-loop-first
invariant-loop-first g l = record {
  low : ℕ;
  lists : map g.C.DocCursor.list l.cursors ≡ map g.C.DocCursor.list l.initial.cursors;
  stand : All (λ c. StandsFrom low (g.C.DocCursor.list c) (g.C.DocCursor.place c)) l.cursors;
  docs : l.docs.items ≡ in_any low (map g.C.DocCursor.list l.initial.cursors);
  some : 0 < length l.marks;
  small : length l.marks ≤ 1024;
  clear : All (λ w. w ≡ 0) l.marks;
}

abbrev pub decreases-loop-first : goal.decreases-loop-first
decreases-loop-first g l = sum_by (λ c. length (g.C.DocCursor.list c) - g.C.DocCursor.place c) l.cursors
