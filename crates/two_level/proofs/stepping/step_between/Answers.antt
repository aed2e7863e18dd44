use Rattle.std.proofs.Common.{◌≡◌, ℕ, ◌+◌, ◌<◌, List, inl, inr, ap, arith}
use Rattle.std.proofs.lemmas.Bool.{cases_lt}
use Rattle.part_cost.specs.Formats.{numbers_of}
use Rattle.part_directory.specs.DirectorySequence.{words_of}
use Rattle.sequence_words.specs.SequenceFault.{end_before}
use Rattle.sequence_words.specs.SequenceView.{sequence_stated}
use Rattle.two_level.specs.Steps.{greatest_step}
use Rattle.two_level.proofs.Steps.{step-apart, step-none}
use Rattle.sequence_words.proofs.StatedParts.{end-before-next}
use Rattle.two_level.proofs.stepping.step_between.Goals as goal

pub parts-preserved : goal.parts-preserved
parts-preserved c =
    let format = numbers_of c.args.directory.now.format in
    let words = (words_of c.args.directory.now) in
    let parts : ℕ = c.args.directory.now.parts in
    let xs : List ℕ = (sequence_stated format words parts).values in
    let d = c.args.directory.now.stated in
    let so_far = c.parts.invariant in
    let here = so_far.part c.parts-test.true in
    let s = c.stated_part.ensures in
    let index : ℕ = c.parts.index in
    let end : ℕ = c.min-end.result in
    let behind = end-before-next format words index in
    record {
      after = omega (arith, so_far.after, c.min-end.ensures, s.to, here.2, c.parts-test.true);
      within = omega (arith, c.min-end.ensures);
      part =
          λ lt.
          let is : end ≡ end_before format words (index + 1) = omega (arith, c.min-end.ensures, s.to, behind, lt) in
          let more : index + 1 < parts =
          elim (cases_lt (index + 1) parts) [
            | inl less ↦ less
            | inr all ↦ absurd (omega (arith, is, lt, c.requires.within, d.end, ap (end_before format words) (let e : index + 1 ≡ parts = omega (arith, all, here.0) in e)))
          ] in
          (more, omega (arith, is), omega (arith, is, (d.part (index + 1) more).some));
      largest =
          omega (
            arith,
            step-apart xs c.parts.place end c.args.to (omega (arith, c.min-end.ensures, s.to, here.2, c.parts-test.true)) (omega (arith, c.min-end.ensures)) c.requires.within,
            so_far.largest,
            c.max-most.ensures,
            c.step_in_part.ensures,
          );
    }

pub returns : goal.returns
returns c =
    let xs : List ℕ = (sequence_stated (numbers_of c.args.directory.now.format) (words_of c.args.directory.now) c.args.directory.now.parts).values in
    let end : c.parts.place ≡ c.args.to = omega (arith, c.parts.invariant.within, c.parts-test.false) in
    omega (arith, c.parts.invariant.largest, step-none xs c.args.to, ap (λ n. greatest_step xs n c.args.to) end)
