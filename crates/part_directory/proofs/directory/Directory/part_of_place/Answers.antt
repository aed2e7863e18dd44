use Rattle.std.proofs.Common.{◌≡◌, ℕ, suc, ◌+◌, ◌-◌, ◌/◌, ◌<◌, inl, inr, refl, ap, arith}
use Rattle.std.proofs.lemmas.Bool.{cases_lt}
use Rattle.part_cost.specs.Formats.{numbers_of}
use Rattle.part_directory.specs.DirectorySequence.{words_of}
use Rattle.sequence_words.specs.SequenceFault.{end_before}
use Rattle.part_directory.proofs.Begun.{lent-many}
use Rattle.sequence_words.proofs.StatedParts.{end-before-next}
use Rattle.part_directory.proofs.directory.Directory.part_of_place.Goals as goal

pub loop-low-init : goal.loop-low-init
loop-low-init c =
    let d = c.args.self.now in
    let format = numbers_of d.format in
    let words = (words_of d) in
    let none : end_before format words 0 ≡ 0 = refl in
    let some : 0 < d.parts =
    elim (cases_lt 0 d.parts) [
      | inl less ↦ less
      | inr more ↦ absurd (omega (arith, c.requires.within, d.stated.end, none, ap (end_before format words) (let e : d.parts ≡ 0 = omega (arith, more) in e)))
    ] in
    let last : ℕ = d.parts - 1 in
    let all = ap (end_before format words) (let e : suc last ≡ d.parts = omega (arith, some) in e) in
    record {
      up = omega arith;
      within = omega (arith, some);
      from = omega (arith, none);
      to = omega (arith, c.requires.within, d.stated.end, all);
    }

pub entry_in_words-requires : goal.entry_in_words-requires
entry_in_words-requires c =
    record {
      within = omega (arith, c.loop-low.invariant.within, c.loop-low-test.true);
      in_words = lent-many (numbers_of c.args.self.now.format) c.args.self.now.words.now c.args.self.now.m c.args.self.now.parts c.args.self.now.alone c.args.self.now.stands (omega (arith, c.loop-low.invariant.within, c.loop-low-test.true));
    }

pub loop-low-preserved : goal.loop-low-preserved
loop-low-preserved c =
    let middle : ℕ = c.loop-low.low + (c.loop-low.high - c.loop-low.low) / 2 in
    record {
      up = omega (arith, c.loop-low-test.true, c.loop-low.invariant.up);
      within = c.loop-low.invariant.within;
      from = omega (arith, end-before-next (numbers_of c.args.self.now.format) (words_of c.args.self.now) middle, c.entry_in_words.ensures.end, c.if-place-entry_in_words.false);
      to = c.loop-low.invariant.to;
    }
