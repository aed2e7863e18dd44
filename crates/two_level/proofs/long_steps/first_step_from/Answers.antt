use Rattle.std.proofs.Common.{◌≡◌, refl, ℕ, ◌+◌, ◌<◌, length, inl, inr, ap, sym, ◌∙◌, subst, arith}
use Rattle.std.proofs.lemmas.Bool.{cases_lt}
use Rattle.part_cost.specs.Formats.{numbers_of}
use Rattle.part_directory.specs.DirectorySequence.{words_of, sequence_of}
use Rattle.sequence_words.specs.SequenceFault.{end_before}
use Rattle.two_level.specs.LongSteps.{IsFirstStep}
use Rattle.sequence_words.proofs.StatedParts.{end-before-next}
use Rattle.two_level.proofs.LongSteps.{first-none, first-behind, first-before, first-of_all, first-of_any}
use Rattle.two_level.proofs.long_steps.first_step_from.Goals as goal

pub returns-then-least-le1 : goal.returns-then-least-le1
returns-then-least-le1 c =
    elim c.then-least-le1.either [
      | inl few ↦ first-of_all (sequence_of c.args.directory.now).values c.args.from (length (sequence_of c.args.directory.now).values) c.args.least c.args.from refl (first-of_any (sequence_of c.args.directory.now).values c.args.directory.now.stated.rising c.args.from c.args.least c.requires.within few)
      | inr end ↦ first-of_all (sequence_of c.args.directory.now).values c.args.from c.args.from c.args.least c.args.from (end.1 ∙ c.args.directory.now.count) (first-none (sequence_of c.args.directory.now).values c.args.from c.args.least)
    ]

pub returns-then-found-part : goal.returns-then-found-part
returns-then-found-part c =
    let here = c.parts.invariant.part c.parts-test.true in
    let p = c.args.directory.now.stated.part c.parts.index here.0 in
    first-of_all (sequence_of c.args.directory.now).values c.args.from c.args.directory.now.m c.args.least c.first_in_part-found.result c.args.directory.now.count
    (first-before (sequence_of c.args.directory.now).values c.args.from c.stated_part.result.0.to c.args.directory.now.m c.args.least c.first_in_part-found.result
    (first-behind (sequence_of c.args.directory.now).values c.args.from c.parts.place c.stated_part.result.0.to c.args.least c.first_in_part-found.result c.parts.invariant.none c.first_in_part-found.ensures)
    c.if-found-part.true (omega (arith, c.stated_part.ensures.to, p.within, c.args.directory.now.count)))

pub parts-preserved : goal.parts-preserved
parts-preserved c =
    let parts : ℕ = c.args.directory.now.parts in
    let here = c.parts.invariant.part c.parts-test.true in
    let s = c.stated_part.ensures in
    let index : ℕ = c.parts.index in
    let end : ℕ = c.stated_part.result.0.to in
    let behind = end-before-next (numbers_of c.args.directory.now.format) (words_of c.args.directory.now) index in
    let p = c.args.directory.now.stated.part index here.0 in
    let first = c.first_in_part-found.ensures in
    record {
      after = omega (arith, c.parts.invariant.after, s.to, here.2);
      within = omega (arith, s.to, p.within, c.args.directory.now.count);
      part =
          λ lt.
          let is : end ≡ end_before (numbers_of c.args.directory.now.format) (words_of c.args.directory.now) (index + 1) = omega (arith, s.to, behind) in
          let more : index + 1 < parts =
          elim (cases_lt (index + 1) parts) [
            | inl less ↦ less
            | inr all ↦ absurd (omega (arith, is, lt, c.args.directory.now.count, c.args.directory.now.stated.end, ap (end_before (numbers_of c.args.directory.now.format) (words_of c.args.directory.now)) (let e : index + 1 ≡ parts = omega (arith, all, here.0) in e)))
          ] in
          (more, omega (arith, is), omega (arith, is, (c.args.directory.now.stated.part (index + 1) more).some));
      none =
          subst (λ n. IsFirstStep (sequence_of c.args.directory.now).values c.args.from end c.args.least n) (let e : c.first_in_part-found.result ≡ end = omega (arith, first.within, c.if-found-part.false) in e)
          (first-behind (sequence_of c.args.directory.now).values c.args.from c.parts.place end c.args.least c.first_in_part-found.result c.parts.invariant.none first);
    }

pub returns : goal.returns
returns c =
    let end : c.parts.place ≡ c.args.directory.now.m = omega (arith, c.parts.invariant.within, c.parts-test.false) in
    sym end ∙ first-of_all (sequence_of c.args.directory.now).values c.args.from c.parts.place c.args.least c.parts.place (end ∙ c.args.directory.now.count) c.parts.invariant.none
