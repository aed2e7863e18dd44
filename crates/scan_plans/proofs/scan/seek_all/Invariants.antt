use Rattle.std.proofs.Common.{◌≡◌, map, true}
use Rattle.std.specs.List.{All, AllWithin}
use Rattle.scan_plans.specs.Matches.{has_doc}
use Rattle.scan_plans.specs.Scan.{HasPassed}
use Rattle.scan_plans.proofs.scan.seek_all.Given as goal

abbrev pub invariant-loop-cursor : goal.invariant-loop-cursor
invariant-loop-cursor g l = record {
  lists : map g.C.DocCursor.list l.cursors ≡ map g.C.DocCursor.list l.initial.cursors;
  passed : All (λ c. HasPassed l.candidate (g.C.DocCursor.list c) (g.C.DocCursor.place c)) l.cursors;
  agreed : AllWithin (λ c. has_doc l.candidate (g.C.DocCursor.list c) ≡ true) l.cursors 0 l.cursor-index;
}
