use Rattle.std.proofs.Common.{◌≡◌, arith}
use Rattle.std.proofs.lemmas.Result.{err_from_is_err_and}
use Rattle.collection_reader.proofs.Sizes.{length_refused, size_refused, end_refused, more_left}
use Rattle.collection_reader.proofs.sequences.read_sizes.Goals as goal

pub returns-in_err-read_number : goal.returns-in_err-read_number
returns-in_err-read_number g c =
    let p = err_from_is_err_and c.from_residual.result c.from_residual.ensures.1 in
    rw (p.1, p.2) (length_refused c.args.documents c.args.terms c.args.held.now c.read_number.new.held c.args.sizes.now.items _ _ c.in_err-read_number.field-0.0 c.in_err-read_number.ensures)

pub returns-in_err-size : goal.returns-in_err-size
returns-in_err-size g c =
    let p = err_from_is_err_and c.from_residual-in_err-size.result c.from_residual-in_err-size.ensures.1 in
    rw (p.1, p.2) (
    size_refused c.args.documents c.args.terms c.loop-place.place c.args.held.now c.loop-place.held c.read_number-in-loop-place.new.held c.loop-place.sizes.items _ _ _ c.in_err-size.field-0.0
    c.loop-place-test.true c.loop-place.invariant c.in_err-size.ensures
    )

pub returns-in_err-has_byte : goal.returns-in_err-has_byte
returns-in_err-has_byte g c =
    let p = err_from_is_err_and c.from_residual-in_err-has_byte.result c.from_residual-in_err-has_byte.ensures.1 in
    let done : c.loop-place.place ≡ c.args.documents = omega arith in
    rw (p.1, p.2) (
    end_refused c.args.documents c.args.terms c.args.held.now c.loop-place.held c.has_byte.new.held c.loop-place.sizes.items _ _ _ c.in_err-has_byte.field-0.0
    (rw done at c.loop-place.invariant) c.in_err-has_byte.ensures
    )

pub returns-then-branch : goal.returns-then-branch
returns-then-branch g c =
    let done : c.loop-place.place ≡ c.args.documents = omega arith in
    rw c.breaks-then-branch.ensures (
    more_left c.args.documents c.args.terms c.args.held.now c.loop-place.held c.has_byte.new.held c.loop-place.sizes.items _ _ _
    (rw done at c.loop-place.invariant) (rw c.if-branch.true at c.in_ok-has_byte.ensures)
    )
