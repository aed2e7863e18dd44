use Rattle.std.proofs.lemmas.Bool.{not-false}
use Rattle.interval_max.proofs.pass.can_enter.Goals as goal

pub returns-in-Some : goal.returns-in-Some
returns-in-Some c = λ not_so d s from le.
    c.top_list_grows_in_any_order.ensures.after_last c.args.top.now.k (d, s) (c.in-Some.doc, c.in-Some.least) c.args.top.now.held c.in-Some.ensures.full c.in-Some.ensures.last
    (c.comes_first.ensures (not-false c.comes_first.result not_so) d s from le)
