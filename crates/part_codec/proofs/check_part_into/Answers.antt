use Rattle.std.proofs.Common.{◌≡◌, ℕ, ◌+◌, true, List, map}
use Rattle.bit_words.specs.Bits.{bits_of}
use Rattle.bit_words.proofs.Outcomes.{none-then}
use Rattle.collection_model.specs.Collection.{greatest}
use Rattle.collection_model.specs.Sequences.{steps_from}
use Rattle.part_cost.specs.Stored.{HoldsPart}
use Rattle.part_codec.specs.PartBits.{part_bits}
use Rattle.part_codec.specs.PartView.{Holds}
use Rattle.part_codec.proofs.Steps.{some-then}
use Rattle.part_codec.proofs.check_part_into.Goals as goal

pub returns-clause-some : goal.returns-clause-some
returns-clause-some c =
    let part = c.args.part in
    let given = λ (ys : List ℕ). c.check_into.new.to ≡ map (λ y. y + c.args.base) ys in
    some-then c.check_into.result (λ step. (ys : List ℕ) × Holds c.at.result ys × (c.args.with_steps ≡ true → step ≡ greatest (steps_from 0 ys)) × given ys)
    (λ step. (ys : List ℕ) × HoldsPart part_bits (bits_of part.bits.words.now) part.place part.u part.m ys × (c.args.with_steps ≡ true → step ≡ greatest (steps_from 0 ys)) × given ys) c.check_into.ensures.some
    (λ step h. (h.0, (c.at.ensures.part h.0).0 h.1, h.2, h.3))

pub returns-clause-none : goal.returns-clause-none
returns-clause-none c =
    let part = c.args.part in
    none-then c.check_into.result ((ys : List ℕ) → ¬ Holds c.at.result ys)
    ((ys : List ℕ) → ¬ HoldsPart part_bits (bits_of part.bits.words.now) part.place part.u part.m ys) c.check_into.ensures.none
    (λ never ys h. never ys ((c.at.ensures.part ys).1 h))
