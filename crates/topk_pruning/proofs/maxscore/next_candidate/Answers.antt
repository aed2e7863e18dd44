use Rattle.std.proofs.Common.{map}
use Rattle.topk_pruning.proofs.Tops.{next-alone, next-of_first, others-low, passed-some, within-now}
use Rattle.topk_pruning.proofs.maxscore.next_candidate.Goals as goal

pub first_doc-requires-clause-within : goal.first_doc-requires-clause-within
first_doc-requires-clause-within g c = within-now g.C.DocCursor.list c.args.cursors.now c.args.terms.now c.essential_now-essential.result c.requires.terms

pub returns-clause-passed : goal.returns-clause-passed
returns-clause-passed g c =
    passed-some g.C.DocCursor.list g.C.DocCursor.place c.first_doc.new.cursors (map g.C.DocCursor.list c.args.cursors.now) _ c.args.from c.first_doc.result c.first_doc.ensures.first c.first_doc.ensures.passed

pub returns-clause-next : goal.returns-clause-next
returns-clause-next g c =
    let top = c.args.top.now in
    next-of_first (map g.C.DocCursor.list c.args.cursors.now) c.args.terms.now top.floor top.k c.essential_now-essential.result c.args.from top.held c.first_doc.result c.requires.terms c.essential_now-essential.ensures c.first_doc.ensures.first

pub next_of_one-requires-clause-others : goal.next_of_one-requires-clause-others
next_of_one-requires-clause-others g c =
    others-low c.args.terms.now c.args.top.now.floor c.args.top.now.k c.essential_now-essential.result c.in-Some.bar c.args.top.now.held c.if-essential-eq1.true c.essential_now-essential.ensures c.in-Some.ensures

pub returns-in-Some-clause-next : goal.returns-in-Some-clause-next
returns-in-Some-clause-next g c =
    next-alone (map g.C.DocCursor.list c.args.cursors.now) c.args.terms.now c.args.top.now.floor c.args.top.now.k c.in-Some.bar c.args.from c.args.top.now.held c.next_of_one.result c.in-Some.ensures c.next_of_one.ensures.before c.next_of_one.ensures.found
