use Rattle.std.proofs.Common.{◌≡◌, ◌∙◌, suc, ◌+◌, ◌-◌, ◌*◌, ◌≤◌, get_or, arith}
use Rattle.postings.proofs.Steps.{past-few}
use Rattle.postings.proofs.Lists.{cursor-fit}
use Rattle.postings.proofs.cursor.PostingCursor.catch_up.Goals as goal

pub overflow_add-self : goal.overflow_add-self
overflow_add-self c =
    let s = c.args.self.now in
    let sums = s.sums.sequence.values in
    let read : c.value.result ≡ get_or sums (c.args.place - 1) 0 =
    c.value.ensures.value ∙ (λ i. get_or (c.move_to.ensures.sequence i).values (c.move_to.ensures.place i) 0) in
    let few : get_or sums (c.args.place - 1) 0 + 1 ≤ suc (c.args.place - 1) * 4294967295 =
    past-few sums (suc (c.args.place - 1)) (cursor-fit s.docs.sequence.values sums s.same_length s.cursor.well_formed) (omega (arith, c.requires.within, s.same_length, c.if-place.true)) in
    omega (arith, read, few, c.if-place.true)
