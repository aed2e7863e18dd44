use Rattle.std.proofs.Common.{◌≢◌, ◌≤◌, leb, take}
use Rattle.std.specs.List.{count_by}
use Rattle.collection_model.specs.Collection.{freqs_of}
use Rattle.segments.specs.Joined.{joined_list}
use Rattle.segments.specs.JoinedCursor.{parts_of}
use Rattle.segments.proofs.parts.common_of.Given as goal

abbrev pub invariant-loop-part : goal.invariant-loop-part
invariant-loop-part g l = l.most ≢ 0 → l.k ≤ count_by (λ f. leb l.most f) (freqs_of (joined_list (take l.part-index (parts_of g.C.DocCursor.list l.parts))))
