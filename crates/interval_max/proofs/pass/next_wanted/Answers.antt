use Rattle.interval_max.proofs.Settled.{low-search}
use Rattle.interval_max.proofs.pass.next_wanted.Goals as goal

pub returns-clause-search : goal.returns-clause-search
returns-clause-search c = λ lists weights search.
    let top = c.args.top.now in
    low-search c.args.v c.settle_below.result c.args.bounds.now c.settle_below.new.bounds c.settle_below.ensures.settled c.top_list_grows_in_any_order.ensures.skipped top.n c.least_to_enter-least.result top lists weights c.least_to_enter-least.ensures c.settle_below.ensures.low search
