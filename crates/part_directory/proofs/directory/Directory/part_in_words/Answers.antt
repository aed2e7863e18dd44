use Rattle.std.proofs.Common.{◌≡◌, ℕ, ◌+◌, ◌-◌, List, length, sym, ap, ◌∙◌, subst, arith}
use Rattle.bit_words.specs.Bits.{bits_of}
use Rattle.part_cost.specs.Formats.{numbers_of}
use Rattle.part_cost.specs.Span.{past, relative_values}
use Rattle.part_cost.specs.Stored.{HoldsPart}
use Rattle.part_codec.specs.PartBits.{part_bits}
use Rattle.sequence_words.specs.SequenceFault.{stated_last, stated_end, end_before, past_before, stated_universe, stated_count, payload_before, first_bit}
use Rattle.part_directory.specs.DirectorySequence.{words_of, sequence_of}
use Rattle.part_directory.proofs.Begun.{begun-lent, held-counted}
use Rattle.sequence_words.proofs.StatedParts.{restored-here}
use Rattle.part_directory.proofs.directory.Directory.part_in_words.Goals as goal

pub overflow_add-u : goal.overflow_add-u
overflow_add-u c = omega (arith, c.entry_in_words-entry.ensures.last, (c.args.self.now.stated.part c.args.part c.requires.within).small, (c.formats_have_room.ensures c.args.self.now.format).sums)

pub overflow_sub-u : goal.overflow_sub-u
overflow_sub-u c = omega (arith, c.before_part-from.ensures.past, c.entry_in_words-entry.ensures.last, (c.args.self.now.stated.part c.args.part c.requires.within).above)

pub overflow_add-place : goal.overflow_add-place
overflow_add-place c =
    let p = c.args.self.now.stated.part c.args.part c.requires.within in
    omega (arith, c.directory_bits.ensures.bits, c.entry_in_words-entry.ensures.offset, p.offset, p.place, c.args.self.now.few_words)

pub overflow_cast-result : goal.overflow_cast-result
overflow_cast-result c =
    let p = c.args.self.now.stated.part c.args.part c.requires.within in
    omega (arith, c.before_part-from.ensures.end, p.some, p.within, c.args.self.now.few)

pub overflow_cast-result-2 : goal.overflow_cast-result-2
overflow_cast-result-2 c = omega (arith, c.entry_in_words-entry.ensures.end, (c.args.self.now.stated.part c.args.part c.requires.within).within, c.args.self.now.few)

pub overflow_sub-entry : goal.overflow_sub-entry
overflow_sub-entry c = omega (arith, c.before_part-from.ensures.end, c.entry_in_words-entry.ensures.end, (c.args.self.now.stated.part c.args.part c.requires.within).some)

pub at-requires-clause-some : goal.at-requires-clause-some
at-requires-clause-some c = omega (arith, c.before_part-from.ensures.end, c.entry_in_words-entry.ensures.end, (c.args.self.now.stated.part c.args.part c.requires.within).some)

pub at-requires-clause-fit : goal.at-requires-clause-fit
at-requires-clause-fit c =
    omega (arith, c.before_part-from.ensures.end, c.entry_in_words-entry.ensures.end, c.before_part-from.ensures.past, c.entry_in_words-entry.ensures.last, (c.args.self.now.stated.part c.args.part c.requires.within).room)

pub at-requires-clause-in_range : goal.at-requires-clause-in_range
at-requires-clause-in_range c = omega (arith, c.entry_in_words-entry.ensures.last, (c.args.self.now.stated.part c.args.part c.requires.within).small, (c.formats_have_room.ensures c.args.self.now.format).sums)

pub at-requires-clause-place : goal.at-requires-clause-place
at-requires-clause-place c =
    let p = c.args.self.now.stated.part c.args.part c.requires.within in
    let lent = begun-lent (numbers_of c.args.self.now.format) c.args.self.now.words.now c.args.self.now.m c.args.self.now.alone c.requires.in_words in
    omega (arith, c.directory_bits.ensures.bits, c.entry_in_words-entry.ensures.offset, p.offset, p.place, ap length lent)

pub returns : goal.returns
returns c =
    let d = c.args.self.now in
    let format = numbers_of d.format in
    let words : List ℕ = words_of d in
    let q : ℕ = c.args.part in
    let p = d.stated.part q c.requires.within in
    let xs : List ℕ = (sequence_of d).values in
    let placed = c.at.result in
    let entry = c.entry_in_words-entry.result in
    let from : ℕ = c.before_part-from.result.0 in
    let to : ℕ = entry.end in
    let lent = begun-lent format d.words.now d.m d.alone c.requires.in_words in
    let starts : from ≡ end_before format words q = c.before_part-from.ensures.end in
    let ends : to ≡ stated_end format words q = c.entry_in_words-entry.ensures.end in
    let last : entry.last ≡ stated_last format words q = c.entry_in_words-entry.ensures.last in
    let u_is : stated_universe format words q ≡ placed.u = omega (arith, c.at.ensures.u, last, c.before_part-from.ensures.past) in
    let m_is : stated_count format words q ≡ placed.m = omega (arith, c.at.ensures.m, ends, starts) in
    let place_is : first_bit format d.parts + payload_before format words q ≡ placed.place =
    omega (arith, c.at.ensures.place, c.directory_bits.ensures.bits, c.entry_in_words-entry.ensures.offset, p.offset) in
    let first : entry.last + 1 - placed.u ≡ past_before format words q = omega (arith, u_is, last, p.above) in
    let base : past xs from ≡ entry.last + 1 - placed.u = ap (past xs) starts ∙ sym p.before ∙ sym first in
    let values_are = ap (λ n. relative_values xs n (stated_end format words q)) (sym starts) ∙ ap (relative_values xs from) (sym ends) in
    record {
      from = starts;
      to = ends;
      last = last;
      u = omega (arith, u_is, c.at.ensures.u);
      before = omega (arith, c.at.ensures.u);
      whole = λ many. omega (arith, c.at.ensures.u);
      count = c.at.ensures.m;
      held =
          held-counted words placed.bits.words.now _ placed.place _ placed.u _ placed.m xs from to (entry.last + 1 - placed.u)
          (lent ∙ sym c.at.ensures.bits) place_is u_is m_is base
          (subst (HoldsPart part_bits (bits_of words) (first_bit format d.parts + payload_before format words q) (stated_universe format words q) (stated_count format words q)) values_are p.held);
      restored = restored-here format words xs d.parts q from (entry.last + 1 - placed.u) to p starts first ends;
    }
