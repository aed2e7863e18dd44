use Rattle.std.proofs.Common.{◌≡◌, ◌%◌, ◌^◌, slice_index, sym, ap, ◌∙◌, arith}
use Rattle.std.proofs.lemmas.Nat.{and_mask}
use Rattle.part_cost.specs.Formats.{numbers_of}
use Rattle.sequence_words.specs.EntryWords.{last_at}
use Rattle.sequence_words.proofs.entry.last_bits.Goals as goal

pub returns-in-One : goal.returns-in-One
returns-in-One c words p fits = and_mask (slice_index words p) 36 ∙ sym (ap (λ f. last_at (numbers_of f) words p) c.in-One.is)

pub returns-in-Two : goal.returns-in-Two
returns-in-Two c words p fits =
    and_mask (slice_index words p) 64
    ∙ (let e : slice_index words p % 2 ^ 64 ≡ slice_index words p = omega (arith, fits) in e)
    ∙ sym (ap (λ f. last_at (numbers_of f) words p) c.in-Two.is)

pub returns-in-Three : goal.returns-in-Three
returns-in-Three c words p fits = and_mask (slice_index words p) 48 ∙ sym (ap (λ f. last_at (numbers_of f) words p) c.in-Three.is)
