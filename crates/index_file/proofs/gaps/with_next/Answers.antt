use Rattle.std.proofs.Common.{◌+◌, ◌∙◌, arith}
use Rattle.std.proofs.lemmas.List.{get_or-set_other, get_or-set_same, length-set}
use Rattle.part_codec.proofs.Relative.{relative-held}
use Rattle.part_codec.specs.PartView.{universe_of, count_of}
use Rattle.index_file.proofs.PackedChecks.{number-held}
use Rattle.index_file.proofs.NumbersRead.{here-read, here-two}
use Rattle.index_file.proofs.gaps.with_next.Goals as goal

pub overflow_cast-first : goal.overflow_cast-first
overflow_cast-first c = omega (arith, c.requires.more, c.requires.few)

pub overflow_add-first : goal.overflow_add-first
overflow_add-first c = omega (arith, c.requires.more, c.requires.few)

pub values_below-count-requires : goal.values_below-count-requires
values_below-count-requires c =
    let h = c.requires.held in
    ((h.0, h.1), (omega (arith, c.requires.more), number-held c.args.part.now h.0 _ _ h.1 (h.2.same c.args.run.at h.2.within)))

pub returns-clause-here : goal.returns-clause-here
returns-clause-here c ys held here =
    (here-read ys c.values_below-count.new.to (universe_of c.args.part.now) (count_of c.args.part.now) (c.args.run.first + c.args.run.at) c.values_below-count.result (relative-held c.args.part.now ys held) c.requires.small c.requires.more
    (omega (arith, c.requires.room, c.values_below-count.ensures.room)) (c.values_below-count.ensures.values ys held)).1 _ (λ _. c.args.run.first + c.args.run.at) (λ _. 0) (λ _. c.values_below-count.result) (λ _. 0)

pub returns-clause-next : goal.returns-clause-next
returns-clause-next c =
    let h = c.requires.held in
    let some = (here-read h.0 c.values_below-count.new.to (universe_of c.args.part.now) (count_of c.args.part.now) (c.args.run.first + c.args.run.at) c.values_below-count.result (relative-held c.args.part.now h.0 h.1) c.requires.small c.requires.more
    (omega (arith, c.requires.room, c.values_below-count.ensures.room)) (c.values_below-count.ensures.values h.0 h.1)).0 in
    omega (arith, some)

pub number_after-requires-clause-number : goal.number_after-requires-clause-number
number_after-requires-clause-number c =
    let h = c.requires.held in
    number-held c.args.part.now h.0 _ _ h.1 (h.2.same c.args.run.at h.2.within)

pub returns-then-run-eq1-clause-here : goal.returns-then-run-eq1-clause-here
returns-then-run-eq1-clause-here c ys held here =
    let room = c.requires.room in
    here-two ys c.args.numbers.now _ c.args.run here c.if-run-eq1.true (omega (arith, c.requires.more, (relative-held c.args.part.now ys held).count)) (omega (arith, room, length-set c.args.numbers.now 1 c.number_after.result))
    (get_or-set_other c.args.numbers.now 1 0 c.number_after.result 0 (λ e. omega (arith, e))) (get_or-set_same c.args.numbers.now 1 c.number_after.result 0 (omega (arith, room)) ∙ c.number_after.ensures ys held)
