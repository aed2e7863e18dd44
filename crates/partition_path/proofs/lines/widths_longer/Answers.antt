use Rattle.std.proofs.Common.{◌≡◌, ℕ, ◌<◌, subst, length, get_or, arith}
use Rattle.std.proofs.lemmas.List.{get_or_read}
use Rattle.partition_path.specs.Lines.{IsLonger, no_open, width_weight}
use Rattle.partition_path.proofs.Longer.{longer-more}
use Rattle.partition_path.proofs.lines.widths_longer.Goals as goal

pub loop-k-preserved : goal.loop-k-preserved
loop-k-preserved c =
    let items = c.loop-k.routes.items in
    let k = c.loop-k.k in
    let below : k < length items = omega (arith, c.loop-k-test.true, c.len-k-end.ensures, c.loop-k.invariant.count) in
    let read : c.index.result.now ≡ get_or items k no_open = get_or_read items k c.index.result.now below c.index.ensures no_open in
    let longer : IsLonger c.args.number.place c.args.number.known c.args.charge (width_weight k c.args.number.gap) c.index.result.now c.longer-longer.result =
    subst (λ (x : ℕ). IsLonger c.args.number.place c.args.number.known c.args.charge x c.index.result.now c.longer-longer.result) c.weight.ensures.value c.longer-longer.ensures in
    longer-more c.args.number.place c.args.number.known c.args.charge c.args.number.gap c.args.routes.now.items items c.loop-k.best k c.loop-k.invariant below c.index.result.now c.longer-longer.result c.or-best.result read longer c.or-best.ensures.this c.or-best.ensures.that c.or-best.ensures.start
