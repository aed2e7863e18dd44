use Rattle.std.proofs.Common.{List, ℕ, ◌+◌, ◌-◌, length, ap, ◌∙◌, arith}
use Rattle.std.specs.Prelude.{slice_range}
use Rattle.part_cost.specs.Span.{past}
use Rattle.part_directory.specs.HeldParts.{HoldsValues}
use Rattle.part_directory.proofs.Blocks.{IsBlock, is-block}
use Rattle.part_directory.proofs.held.HeldPart.read_block.Goals as goal
use Rattle.part_directory.proofs.held.HeldPart.read_block.Goals.{After-values_below}

-- the values that are given are the next of the part
block : (c : After-values_below) → (xs : List ℕ) → HoldsValues c.args.self.now xs → IsBlock xs c.args.place c.values_below.new.to
block c xs h =
    is-block c.args.self.now xs c.values_below.new.to c.args.place c.values_below.result h (omega (arith, c.requires.some, c.values_below.ensures.room)) (omega (arith, c.requires.within, c.values_below.ensures.room)) (c.values_below.ensures.values xs h)

pub returns-clause-values : goal.returns-clause-values
returns-clause-values c xs h =
    (block (goal.at.returns-clause-values c).After-values_below xs h).all ∙ ap (λ n. slice_range xs c.args.place (c.args.place + n)) c.values_below.ensures.room

pub returns-clause-small : goal.returns-clause-small
returns-clause-small c = (block (goal.at.returns-clause-small c).After-values_below c.requires.values.0 c.requires.values.1).small

pub returns-clause-last : goal.returns-clause-last
returns-clause-last c xs h =
    omega (arith, (block (goal.at.returns-clause-last c).After-values_below xs h).last, ap (λ n. past xs (c.args.place + n)) c.values_below.ensures.room)

pub returns-clause-fits : goal.returns-clause-fits
returns-clause-fits c =
    (block (goal.at.returns-clause-fits c).After-values_below c.requires.values.0 c.requires.values.1).small (length c.values_below.new.to - 1) (omega (arith, c.requires.some, c.values_below.ensures.room))
