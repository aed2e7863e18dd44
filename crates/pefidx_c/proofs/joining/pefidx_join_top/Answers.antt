use Rattle.std.proofs.Common.{sym, subst, ℕ, List, map}
use Rattle.scan_plans.specs.Ranking.{IsFirstK}
use Rattle.pefidx_c.specs.JoinedTop.{joined_pairs}
use Rattle.pefidx_c.specs.Rooms.{pair_of}
use Rattle.pefidx_c.proofs.TopLists.{tops-joined}
use Rattle.pefidx_c.proofs.joining.pefidx_join_top.Goals as goal

pub returns-in-Ok-clause-given : goal.returns-in-Ok-clause-given
returns-in-Ok-clause-given c = λ asked done.
    let given : List (ℕ × ℕ) = map pair_of c.args.given.now in
    let all : List (ℕ × ℕ) = joined_pairs 0 c.args.documents.now c.args.counts.now given in
    let first = subst (λ (r : List (ℕ × ℕ)). IsFirstK c.args.k all r) (sym c.as_slice.ensures.value) c.in-Ok.ensures in
    let laws = c.joined_lists_follow.ensures in
    let whole = tops-joined laws.list laws.wide c.args.documents.now c.args.counts.now given c.args.k c.as_slice.result.now first in
    (c.as_slice.result.now, first, whole, c.give_best.ensures.status, c.give_best.ensures.room, c.give_best.ensures.count)
