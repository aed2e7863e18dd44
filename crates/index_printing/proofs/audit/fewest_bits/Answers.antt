use Rattle.std.proofs.Common.{◌≡◌, ℕ, List, false, length, refl, sym, subst}
use Rattle.collection_model.specs.FormatNumbers.{Plain, part_charge}
use Rattle.part_cost.specs.declared.formats.Format.{Format}
use Rattle.part_cost.specs.Formats.{numbers_of}
use Rattle.part_cost.specs.Span.{cost_of_part}
use Rattle.part_cost.specs.Partition.{IsCheapest, IsCheapestOfAll}
use Rattle.part_cost.specs.StoredBits.{IsLeastStored, IsLeastStoredOfAll}
use Rattle.partition_path.specs.Rests.{whole_cost}
use Rattle.index_printing.proofs.FewestBits.{AreFewest, fewest-plain}
use Rattle.index_printing.proofs.audit.fewest_bits.Goals as goal

-- of a plain file
plain : (format : Format) (xs : List ℕ) (allowed any : ℕ) → IsCheapest (numbers_of format).limit (cost_of_part (part_charge (numbers_of format)) xs) (length xs) allowed
    → IsCheapestOfAll (cost_of_part (part_charge (numbers_of format)) xs) (length xs) any → (other : Format) → format ≡ other → (numbers_of other).kind ≡ Plain
    → AreFewest (numbers_of format) xs allowed any
plain format xs allowed any cheapest of_all other is kind = fewest-plain (numbers_of format) xs allowed any cheapest of_all (subst (λ f. (numbers_of f).kind ≡ Plain) (sym is) kind)

pub returns-in-One-clause-least_allowed : goal.returns-in-One-clause-least_allowed
returns-in-One-clause-least_allowed c = (plain c.args.format c.args.values.now c.args.allowed c.args.any.least c.requires.least_allowed c.requires.least_of_all _ c.in-One.is refl).least_allowed

pub returns-in-One-clause-least_of_all : goal.returns-in-One-clause-least_of_all
returns-in-One-clause-least_of_all c = (plain c.args.format c.args.values.now c.args.allowed c.args.any.least c.requires.least_allowed c.requires.least_of_all _ c.in-One.is refl).least_of_all

pub returns-in-Two-clause-least_allowed : goal.returns-in-Two-clause-least_allowed
returns-in-Two-clause-least_allowed c = (plain c.args.format c.args.values.now c.args.allowed c.args.any.least c.requires.least_allowed c.requires.least_of_all _ c.in-Two.is refl).least_allowed

pub returns-in-Two-clause-least_of_all : goal.returns-in-Two-clause-least_of_all
returns-in-Two-clause-least_of_all c = (plain c.args.format c.args.values.now c.args.allowed c.args.any.least c.requires.least_allowed c.requires.least_of_all _ c.in-Two.is refl).least_of_all

pub fewest_packed-requires-clause-least_allowed : goal.fewest_packed-requires-clause-least_allowed
fewest_packed-requires-clause-least_allowed c =
    let P : Format → Type 0 = λ f. IsCheapest (numbers_of f).limit (cost_of_part (part_charge (numbers_of f)) c.args.values.now) (length c.args.values.now) c.args.allowed in
    subst P c.in-Three.is c.requires.least_allowed

pub fewest_packed-requires-clause-least_of_all : goal.fewest_packed-requires-clause-least_of_all
fewest_packed-requires-clause-least_of_all c =
    let P : Format → Type 0 = λ f. IsCheapestOfAll (cost_of_part (part_charge (numbers_of f)) c.args.values.now) (length c.args.values.now) c.args.any.least in
    subst P c.in-Three.is c.requires.least_of_all

pub fewest_packed-requires-clause-whole : goal.fewest_packed-requires-clause-whole
fewest_packed-requires-clause-whole c =
    let P : Format → Type 0 = λ f. c.args.any.whole ≡ whole_cost false (numbers_of f).limit (cost_of_part (part_charge (numbers_of f)) c.args.values.now) (length c.args.values.now) in
    subst P c.in-Three.is c.requires.whole

pub returns-in-Three-clause-least_allowed : goal.returns-in-Three-clause-least_allowed
returns-in-Three-clause-least_allowed c =
    let P : Format → Type 0 = λ f. IsLeastStored (numbers_of f) c.args.values.now c.fewest_packed.result.0 in
    subst P (sym c.in-Three.is) c.fewest_packed.ensures.least_allowed

pub returns-in-Three-clause-least_of_all : goal.returns-in-Three-clause-least_of_all
returns-in-Three-clause-least_of_all c =
    let P : Format → Type 0 = λ f. IsLeastStoredOfAll (numbers_of f) c.args.values.now c.fewest_packed.result.1 in
    subst P (sym c.in-Three.is) c.fewest_packed.ensures.least_of_all
