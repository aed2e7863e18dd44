use Rattle.std.proofs.Common.{◌≡◌, ℕ, ◌-◌, ◌∷◌, map, length}
use Rattle.std.specs.List.{All, filter, range_with_len}
use Rattle.scan_plans.specs.Scan.{StandsFrom, HasPassed, in_each}
use Rattle.scan_plans.specs.Window.{AllAreMarked}
use Rattle.scan_plans.proofs.docs.shared_docs.Given as goal

abbrev pub invariant-loop-doc : goal.invariant-loop-doc
invariant-loop-doc g l = record {
  low : ℕ;
  list : g.C.DocCursor.list l.shortest ≡ g.C.DocCursor.list l.initial.shortest;
  lists : map g.C.DocCursor.list l.others ≡ map g.C.DocCursor.list l.initial.others;
  stand : StandsFrom low (g.C.DocCursor.list l.shortest) (g.C.DocCursor.place l.shortest);
  passed : All (λ c. HasPassed low (g.C.DocCursor.list c) (g.C.DocCursor.place c)) l.others;
  docs : l.docs.items ≡ filter (λ d. in_each d (g.C.DocCursor.list l.initial.shortest ∷ map g.C.DocCursor.list l.initial.others)) (range_with_len 0 low);
  room : length l.told.marks ≡ 64;
  marked : AllAreMarked l.told.marks;
}

abbrev pub decreases-loop-doc : goal.decreases-loop-doc
decreases-loop-doc g l = length (g.C.DocCursor.list l.shortest) - g.C.DocCursor.place l.shortest
