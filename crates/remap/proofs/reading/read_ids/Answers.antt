use Rattle.std.proofs.Common.{◌≡◌, ◌∙◌, refl, sym, get_or, false, arith}
use Rattle.std.proofs.lemmas.List.{get_or_read}
use Rattle.std.proofs.lemmas.Result.{err_from_is_err_and}
use Rattle.remap.proofs.MapIds.{length-refused, no-room, number-refused, not-kept, too-large, came-before, one-more, end-refused, more-left, all-read}
use Rattle.remap.proofs.reading.read_ids.Goals as goal

pub returns-in_err-read_length : goal.returns-in_err-read_length
returns-in_err-read_length g c =
    let p = err_from_is_err_and c.from_residual.result c.from_residual.ensures.1 in
    rw (p.1, p.2) (length-refused c.args.n c.args.held.now c.read_length.new.held _ _ c.in_err-read_length.field-0.0 c.in_err-read_length.ensures)

pub returns-in_err-seen : goal.returns-in_err-seen
returns-in_err-seen g c =
    let p = err_from_is_err_and c.from_residual-in_err-seen.result c.from_residual-in_err-seen.ensures.1 in
    rw (p.1, p.2) (no-room {A = Unit {0}} {x = tt} c.args.n c.args.held.now c.read_length.new.held _ _ c.in_ok-read_length.ensures.depot)

pub returns-in_err-id : goal.returns-in_err-id
returns-in_err-id g c =
    let p = err_from_is_err_and c.from_residual-in_err-id.result c.from_residual-in_err-id.ensures.1 in
    rw (p.1, p.2) (
    number-refused c.args.n c.loop-place.place c.args.held.now c.loop-place.held c.read_number.new.held c.loop-place.ids.items c.loop-place.seen.items _ _ _ c.in_err-id.field-0.0
    c.loop-place-test.true c.loop-place.invariant c.in_err-id.ensures
    )

pub returns-in_err-push : goal.returns-in_err-push
returns-in_err-push g c =
    let p = err_from_is_err_and c.from_residual-in_err-push.result c.from_residual-in_err-push.ensures.1 in
    rw (p.1, p.2) (
    not-kept c.args.n c.loop-place.place c.args.held.now c.loop-place.held c.read_number.new.held c.loop-place.ids.items c.loop-place.seen.items c.in_ok-id.id _ _ _
    c.loop-place.invariant c.in_ok-id.ensures
    )

pub returns-then-id-n : goal.returns-then-id-n
returns-then-id-n g c =
    rw c.broken.ensures (
    too-large c.args.n c.loop-place.place c.args.held.now c.loop-place.held c.read_number.new.held c.loop-place.ids.items c.loop-place.seen.items c.in_ok-id.id _ _ _
    c.loop-place-test.true c.if-id-n.true c.loop-place.invariant c.in_ok-id.ensures
    )

pub returns-then-index : goal.returns-then-index
returns-then-index g c =
    let seen = c.loop-place.seen.items in
    let is : c.index.result.now ≡ get_or seen c.in_ok-id.id false = get_or_read seen c.in_ok-id.id c.index.result.now (omega (arith, c.loop-place.invariant.marks, c.if-id-n.false)) c.index.ensures false in
    rw c.broken-then-index.ensures (
    came-before c.args.n c.loop-place.place c.args.held.now c.loop-place.held c.read_number.new.held c.loop-place.ids.items seen c.in_ok-id.id _ _ _
    c.loop-place-test.true c.if-id-n.false (sym is ∙ c.if-index.true) c.loop-place.invariant c.in_ok-id.ensures
    )

pub loop-place-preserved : goal.loop-place-preserved
loop-place-preserved g c =
    let seen = c.loop-place.seen.items in
    let is : c.index.result.now ≡ get_or seen c.in_ok-id.id false = get_or_read seen c.in_ok-id.id c.index.result.now (omega (arith, c.loop-place.invariant.marks, c.if-id-n.false)) c.index.ensures false in
    one-more c.args.n c.loop-place.place c.args.held.now c.loop-place.held c.read_number.new.held c.loop-place.ids.items c.push.new.self.items seen _ c.in_ok-id.id _ _ _
    c.loop-place.invariant c.in_ok-id.ensures c.if-id-n.false (sym is ∙ c.if-index.false) refl c.in_ok-push.ensures.items

pub returns-in_err-has_byte : goal.returns-in_err-has_byte
returns-in_err-has_byte g c =
    let p = err_from_is_err_and c.from_residual-in_err-has_byte.result c.from_residual-in_err-has_byte.ensures.1 in
    let done : c.loop-place.place ≡ c.args.n = omega arith in
    rw (p.1, p.2) (
    end-refused c.args.n c.args.held.now c.loop-place.held c.has_byte.new.self c.loop-place.ids.items c.loop-place.seen.items _ _ _ c.in_err-has_byte.field-0.0
    (rw done at c.loop-place.invariant) c.in_err-has_byte.ensures
    )

pub returns-then-branch : goal.returns-then-branch
returns-then-branch g c =
    let done : c.loop-place.place ≡ c.args.n = omega arith in
    rw c.broken-then-branch.ensures (
    more-left c.args.n c.args.held.now c.loop-place.held c.has_byte.new.self c.loop-place.ids.items c.loop-place.seen.items _ _ _
    (rw done at c.loop-place.invariant) (rw c.if-branch.true at c.in_ok-has_byte.ensures)
    )

pub returns : goal.returns
returns g c =
    let done : c.loop-place.place ≡ c.args.n = omega arith in
    all-read c.args.n c.args.held.now c.loop-place.held c.has_byte.new.self c.loop-place.ids.items c.loop-place.seen.items _ _ _
    (rw done at c.loop-place.invariant) (rw c.if-branch.false at c.in_ok-has_byte.ensures)
