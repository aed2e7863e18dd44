use Rattle.std.proofs.Common.{rules, arith, ◌<◌, ◌≤◌, ◌+◌, ◌-◌, ◌++◌, ℕ, All, Ok, length, take, drop, ◌∙◌, ap, List, subst}
use Rattle.std.proofs.lemmas.List.{length-drop, length-take}
use Rattle.std.proofs.lemmas.List.Elements.{All-take}
use Rattle.std.proofs.lemmas.Result.{err_from_is_err_and}
use Rattle.std.proofs.lemmas.Result.{IfOk-at_ok}
use Rattle.io_traits.proofs.Loading.{read_prefix, refused, whole, read_on, read_into, prefix_kept}
use Rattle.io_traits.proofs.load.load_bytes.Goals as goal

pub returns-in_err-count : goal.returns-in_err-count
returns-in_err-count g c =
    let p = err_from_is_err_and c.from_residual-in_err-count.result c.from_residual-in_err-count.ensures.1 in
    let held = c.loop-held.held in
    let bytes = c.loop-held.bytes.items in
    rw (p.1, p.2) (refused (g.D.Depot.state c.args.depot.now) (g.D.Depot.state c.loop-held.depot) (g.D.Depot.state c.read.new.self) c.args.slot c.args.limit (take held bytes) _ _ _ _
    c.loop-held.invariant.read c.read.ensures c.in_err-count.was (omega (arith, length-take held bytes)))

pub returns-then-count-eq0 : goal.returns-then-count-eq0
returns-then-count-eq0 g c =
    let held = c.loop-held.held in
    let was = c.loop-held.bytes.items in
    let room = c.make_room.new.bytes.items in
    let lent = c.deref_mut.result.now in
    let end = c.min-end.result in
    let few : length (take held was) ≤ c.args.limit = omega (arith, length-take held was) in
    let P : List ℕ → Type 0 = λ xs. All (λ b. b < 256) xs in
    let small : P room = search rules in
    let longer : held < length room = omega (arith, c.in_ok-make_room.ensures.room, c.make_room.new.bytes.ok.0) in
    whole (g.D.Depot.state c.args.depot.now) (g.D.Depot.state c.loop-held.depot) (g.D.Depot.state c.read.new.self) c.args.slot c.args.limit (take held was) _ _ c.truncate.new.self.items _
    c.loop-held.invariant.read c.read.ensures (c.in_ok-count.was ∙ ap Ok c.if-count-eq0.true)
    (omega (arith, length-take (end - held) (drop held lent), length-drop held lent, ap length c.deref_mut.ensures.value, longer))
    few
    (c.truncate.ensures.items ∙ prefix_kept held _ _ room lent c.read.new.buf _ c.deref_mut.ensures.value (omega (arith, longer)) (omega (arith, c.in_ok-make_room.ensures.room)) ∙ c.in_ok-make_room.ensures.prefix)
    (subst P c.in_ok-make_room.ensures.prefix (All-take (λ b. b < 256) held room small))

pub loop-held-preserved : goal.loop-held-preserved
loop-held-preserved g c =
    let held = c.loop-held.held in
    let count = c.in_ok-count.count in
    let was = c.loop-held.bytes.items in
    let room = c.make_room.new.bytes.items in
    let lent = c.deref_mut.result.now in
    let piece = c.read.new.buf in
    let end = c.min-end.result in
    let came : count ≤ length (take (end - held) (drop held lent)) = IfOk-at_ok _ c.in_ok-count.was c.read.ensures.within in
    let longer : held < length room = omega (arith, c.make_room.new.bytes.ok.0) in
    let fits : held + count ≤ end = omega (arith, came, length-take (end - held) (drop held lent)) in
    record {
      within = omega arith;
      few = omega arith;
      read = read_prefix _ _ _ _ _ (read_on (g.D.Depot.state c.args.depot.now) (g.D.Depot.state c.loop-held.depot) (g.D.Depot.state c.read.new.self) c.args.slot (take held was) _ piece _ count c.loop-held.invariant.read c.read.ensures c.in_ok-count.was)
          (read_into held (end - held) c.make_room.new.bytes.len count room lent piece _ c.deref_mut.ensures.value (omega (arith, longer)) (omega (arith, came, c.read.auto.buf)) (omega arith) ∙ ap (λ xs. xs ++ take count piece) c.in_ok-make_room.ensures.prefix);
    }
