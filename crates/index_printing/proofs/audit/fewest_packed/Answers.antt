use Rattle.std.proofs.Common.{ℕ, ◌-◌, ◌∙◌, min, List, length, refl, sym, subst, arith}
use Rattle.collection_model.specs.FormatNumbers.{format_three, part_charge}
use Rattle.part_cost.specs.Span.{cost_of_part}
use Rattle.part_cost.specs.StoredBits.{IsLeastStored, IsLeastStoredOfAll}
use Rattle.index_printing.proofs.FewestBits.{AreFewest, fewest-none, fewest-one, fewest-many, no-whole, some-whole}
use Rattle.index_printing.proofs.audit.fewest_packed.Goals as goal
use Rattle.index_printing.proofs.audit.fewest_packed.Goals.{After-charge}

-- with no number there is no whole
none : (c : goal.In_default) → AreFewest format_three c.args.values.now c.args.allowed c.args.any.least
none c =
    fewest-none format_three c.args.values.now c.args.allowed c.args.any.least c.requires.least_allowed c.requires.least_of_all refl
    (no-whole format_three.limit (cost_of_part (part_charge format_three) c.args.values.now) (length c.args.values.now) (sym c.in_default.is ∙ c.requires.whole))

pub returns-in_default-clause-least_allowed : goal.returns-in_default-clause-least_allowed
returns-in_default-clause-least_allowed c = (none c).least_allowed

pub returns-in_default-clause-least_of_all : goal.returns-in_default-clause-least_of_all
returns-in_default-clause-least_of_all c = (none c).least_of_all

pub returns-then-values-eq1-clause-least_allowed : goal.returns-then-values-eq1-clause-least_allowed
returns-then-values-eq1-clause-least_allowed c =
    (fewest-one format_three c.args.values.now c.args.allowed c.args.any.least c.requires.least_allowed c.requires.least_of_all refl c.least_stored.ensures c.if-values-eq1.true).least_allowed

pub returns-then-values-eq1-clause-least_of_all : goal.returns-then-values-eq1-clause-least_of_all
returns-then-values-eq1-clause-least_of_all c =
    (fewest-one format_three c.args.values.now c.args.allowed c.args.any.least c.requires.least_allowed c.requires.least_of_all refl c.least_stored.ensures c.if-values-eq1.true).least_of_all

-- of more numbers the whole costs a charge more than it takes
many : (c : After-charge) → AreFewest format_three c.args.values.now (min (c.in-Some.cost - c.charge.result) c.args.allowed) (min (c.in-Some.cost - c.charge.result) c.args.any.least)
many c =
    let xs : List ℕ = c.args.values.now in
    let of = some-whole format_three.limit (cost_of_part (part_charge format_three) xs) (length xs) c.in-Some.cost (sym c.in-Some.is ∙ c.requires.whole) in
    fewest-many format_three xs c.args.allowed c.args.any.least c.requires.least_allowed c.requires.least_of_all refl c.least_stored.ensures
    (omega (arith, of.0, c.if-values-eq1.false)) (c.in-Some.cost - c.charge.result) (omega (arith, of.1, c.charge.ensures))

pub overflow_sub-whole : goal.overflow_sub-whole
overflow_sub-whole c =
    let xs : List ℕ = c.args.values.now in
    let of = some-whole format_three.limit (cost_of_part (part_charge format_three) xs) (length xs) c.in-Some.cost (sym c.in-Some.is ∙ c.requires.whole) in
    omega (arith, of.1, c.charge.ensures)

pub returns-clause-least_allowed : goal.returns-clause-least_allowed
returns-clause-least_allowed c =
    subst (IsLeastStored format_three c.args.values.now) (sym c.min.ensures) (many (goal.at.returns-clause-least_allowed c).After-charge).least_allowed

pub returns-clause-least_of_all : goal.returns-clause-least_of_all
returns-clause-least_of_all c =
    subst (IsLeastStoredOfAll format_three c.args.values.now) (sym c.min-2.ensures) (many (goal.at.returns-clause-least_of_all c).After-charge).least_of_all
