use Rattle.std.proofs.Common.{◌∙◌, ap, ◌+◌, ◌*◌, arith}
use Rattle.packed_sequence.proofs.view.known_sequence_with_end.Goals as goal

pub overflow_add-behind : goal.overflow_add-behind
overflow_add-behind c =
    let h = c.requires.stands in
    omega (arith, c.known_parted-parted.ensures.behind h.0 h.1 h.2, h.2.within, c.used.ensures, c.requires.words)

pub overflow_mul-behind : goal.overflow_mul-behind
overflow_mul-behind c =
    let h = c.requires.stands in
    omega (arith, c.known_parted-parted.ensures.behind h.0 h.1 h.2, h.2.within, c.used.ensures, c.requires.words)

pub returns-in-Parts-clause-behind : goal.returns-in-Parts-clause-behind
returns-in-Parts-clause-behind c xs ends h = ap (λ n. 64 * (c.known_parted-parted.result.start + n)) c.used.ensures ∙ c.known_parted-parted.ensures.behind xs ends h
