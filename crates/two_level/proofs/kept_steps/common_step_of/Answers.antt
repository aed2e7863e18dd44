use Rattle.std.proofs.Common.{◌≡◌, ℕ, ◌≤◌, List, replicate, take, length, slice_index, inl, inr, ap, ◌∙◌, arith}
use Rattle.std.specs.List.{flat_map, range_with_len}
use Rattle.std.proofs.lemmas.List.{length-take-le, length-replicate}
use Rattle.part_cost.specs.Formats.{numbers_of}
use Rattle.part_directory.specs.declared.directory.Directory.{Directory}
use Rattle.part_directory.specs.DirectorySequence.{words_of, sequence_of}
use Rattle.sequence_words.specs.SequenceView.{SequenceView, start_of_part}
use Rattle.sequence_words.proofs.StatedParts.{count-ends}
use Rattle.two_level.specs.LongSteps.{count_reaching, steps_if_long, steps_of_long_parts}
use Rattle.two_level.proofs.LongSteps.{count-all, count-zeros, all-counted}
use Rattle.two_level.proofs.kept_steps.common_step_of.Goals as goal

pub returns-clause-reached : goal.returns-clause-reached
returns-clause-reached c = λ some.
    let k : ℕ = c.args.k in
    let kept : List ℕ = c.keep_long_parts.new.kept in
    let least : ℕ = slice_index kept c.place_of_least.result in
    let long : 1 ≤ least = omega (arith, some) in
    let zeros : List ℕ = replicate 64 0 in
    let room : k ≤ length zeros = omega (arith, c.if-count-gt-MOST_KEPT.false, length-replicate {A = ℕ} 64 0) in
    let size : length kept ≡ k = omega (arith, c.keep_long_parts.ensures.same_kept, length-take-le k zeros room) in
    omega (arith, c.keep_long_parts.ensures.kept least, count-zeros least 64 k long, count-all least kept (λ j lt. c.place_of_least.ensures.least j lt), size)

pub returns-clause-longest : goal.returns-clause-longest
returns-clause-longest c few least reached =
    let k : ℕ = c.args.k in
    let kept : List ℕ = c.keep_long_parts.new.kept in
    let zeros : List ℕ = replicate 64 0 in
    let room : length (take k zeros) ≡ k = length-take-le k zeros (omega (arith, few, length-replicate {A = ℕ} 64 0)) in
    all-counted least kept (omega (arith, c.keep_long_parts.ensures.longest least, c.keep_long_parts.ensures.same_kept, room, reached)) c.place_of_least.result c.place_of_least.ensures.within

pub returns-then-directory-eq0-clause-longest : goal.returns-then-directory-eq0-clause-longest
unfolding steps_of_long_parts
returns-then-directory-eq0-clause-longest c few least reached =
    let d : Directory = c.args.directory.now in
    let v : SequenceView = sequence_of d in
    let no_parts : d.parts ≡ 0 = elim c.then-directory-eq0.either [ inl none ↦ none | inr more ↦ absurd (omega (arith, more.1, few)) ] in
    let none : length v.ends ≡ 0 = count-ends (numbers_of d.format) (words_of d) d.parts ∙ no_parts in
    let long : ℕ → List ℕ = λ q. steps_if_long v.values (start_of_part v.ends q) (slice_index v.ends q) in
    absurd (omega (arith, reached, ap (λ n. count_reaching least (flat_map long (range_with_len 0 n))) none))
