use Rattle.std.proofs.Common.{◌≡◌, length, min, take}
use Rattle.std.specs.List.{sum_by}
use Rattle.scan_plans.proofs.top.count_postings.Given as goal

abbrev pub invariant-loop-cursor : goal.invariant-loop-cursor
invariant-loop-cursor g l = l.postings ≡ min (sum_by (λ c. length (g.C.DocCursor.list c)) (take l.cursor-index l.cursors)) 18446744073709551615
