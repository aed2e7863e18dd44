use Rattle.std.proofs.Common.{◌≡◌, take}
use Rattle.postings.proofs.write.doc_values.Given as goal

abbrev pub invariant-loop-doc : goal.invariant-loop-doc
invariant-loop-doc l = l.values.items ≡ take l.doc-index l.docs
