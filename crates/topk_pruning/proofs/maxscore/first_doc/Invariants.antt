use Rattle.std.proofs.Common.{◌≡◌, map, take}
use Rattle.std.specs.List.{All}
use Rattle.scan_plans.specs.Scan.{HasPassed}
use Rattle.topk_pruning.specs.Terms.{IsFirstDoc}
use Rattle.topk_pruning.proofs.maxscore.first_doc.Given as goal

abbrev pub invariant-loop-term : goal.invariant-loop-term
invariant-loop-term g l = record {
  lists : map g.C.DocCursor.list l.cursors ≡ map g.C.DocCursor.list l.initial.cursors;
  passed : All (λ c. HasPassed l.from (g.C.DocCursor.list c) (g.C.DocCursor.place c)) l.cursors;
  first : IsFirstDoc (map g.C.DocCursor.list l.initial.cursors) (take l.term-index l.terms) l.from l.least;
}
