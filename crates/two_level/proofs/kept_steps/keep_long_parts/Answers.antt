use Rattle.std.proofs.Common.{◌≡◌, ℕ, ◌+◌, ◌-◌, ◌*◌, ◌<◌, ◌≤◌, Bool, true, false, List, [], inl, inr, length, take, slice_index, refl, sym, ap, ◌∙◌, subst, arith}
use Rattle.std.specs.Prelude.{slice_range}
use Rattle.std.specs.List.{flat_map, range_with_len}
use Rattle.std.proofs.lemmas.Bool.{cases_lt}
use Rattle.std.proofs.lemmas.List.{take_all}
use Rattle.collection_model.specs.Sequences.{steps_from}
use Rattle.collection_model.proofs.Sequences.{steps-length}
use Rattle.part_cost.specs.Formats.{numbers_of}
use Rattle.part_directory.specs.DirectorySequence.{words_of, sequence_of}
use Rattle.part_cost.specs.Span.{past, universe}
use Rattle.part_directory.specs.declared.directory.Directory.{Directory}
use Rattle.sequence_words.specs.SequenceFault.{stated_last, stated_end, end_before}
use Rattle.two_level.specs.LongSteps.{count_reaching, KeepsLongest, steps_if_long, steps_of_long_parts}
use Rattle.sequence_words.specs.SequenceView.{SequenceView, start_of_part}
use Rattle.sequence_words.proofs.StatedParts.{end-before-next, stated-ends, stated-start, count-ends}
use Rattle.two_level.proofs.LongSteps.{count-range, keep-none, keep-part, long-taken, short-passed}
use Rattle.two_level.proofs.kept_steps.keep_long_parts.Goals.{then-has_long_steps, else-has_long_steps}
use Rattle.two_level.proofs.kept_steps.keep_long_parts.Goals as goal

-- what is past the last value, as the last entry states it
past-whole : (d : Directory) → 0 < d.parts → (last : ℕ) → last ≡ stated_last (numbers_of d.format) (words_of d) (d.parts - 1) → last + 1 ≡ past (sequence_of d).values (length (sequence_of d).values)
past-whole d some last is =
    let format = numbers_of d.format in
    let p = d.stated.part (d.parts - 1) (omega (arith, some)) in
    let next : d.parts - 1 + 1 ≡ d.parts = omega (arith, some) in
    let end : stated_end format (words_of d) (d.parts - 1) ≡ length (sequence_of d).values = sym (end-before-next format (words_of d) (d.parts - 1)) ∙ ap (end_before format (words_of d)) next ∙ d.stated.end in
    ap (λ n. n + 1) is ∙ p.last ∙ ap (past (sequence_of d).values) end

never : (b : Bool) → b ≡ true → b ≡ false → ⊥
never b yes_b no_b = cc

lt-from_not_le : (a b : ℕ) → (a ≤ b → ⊥) → b < a
lt-from_not_le a b h = elim (cases_lt b a) [ inl lt ↦ lt | inr le ↦ absurd (h le) ]

pub overflow_add-universe : goal.overflow_add-universe
overflow_add-universe c =
    let p = c.args.directory.now.stated.part (c.args.directory.now.parts - 1) (omega (arith, c.requires.some)) in
    let room = c.formats_have_room.ensures c.args.directory.now.format in
    omega (arith, c.entry-universe.ensures.last, p.small, room.sums)

pub parts-init : goal.parts-init
parts-init c = record {
  same_kept = refl;
  kept_few = λ t. omega arith;
  longest = keep-none c.args.kept.now;
}

pub parts-preserved : goal.parts-preserved
parts-preserved c =
    let xs : List ℕ = (sequence_of c.args.directory.now).values in
    let steps : List ℕ = steps_from 0 xs in
    let index : ℕ = c.parts.index in
    let p = c.args.directory.now.stated.part index c.parts-test.true in
    let i : ℕ = end_before (numbers_of c.args.directory.now.format) (words_of c.args.directory.now) index in
    let j : ℕ = stated_end (numbers_of c.args.directory.now.format) (words_of c.args.directory.now) index in
    let so_far = c.parts.invariant in
    let taken : ℕ → ℕ → ℕ = λ t n. count_reaching t (take n steps) in
    let v : SequenceView = sequence_of c.args.directory.now in
    let ends : List ℕ = v.ends in
    let kept : List ℕ = c.parts.kept in
    let long : ℕ → List ℕ = λ q. steps_if_long xs (start_of_part ends q) (slice_index ends q) in
    let first : start_of_part ends index ≡ i = stated-start (numbers_of c.args.directory.now.format) (words_of c.args.directory.now) c.args.directory.now.parts index c.parts-test.true in
    let last : slice_index ends index ≡ j = stated-ends (numbers_of c.args.directory.now.format) (words_of c.args.directory.now) c.args.directory.now.parts index c.parts-test.true in
    let here : long index ≡ steps_if_long xs i j = ap (λ n. steps_if_long xs n (slice_index ends index)) first ∙ ap (steps_if_long xs i) last in
    let told = c.stated_part.ensures in
    let same_universe : c.stated_part.result.0.u ≡ universe xs i j = omega (arith, told.u, p.last, p.before) in
    let whole : c.entry-universe.result.last + 1 ≡ past xs (length xs) = past-whole c.args.directory.now (omega (arith, c.requires.some)) c.entry-universe.result.last c.entry-universe.ensures.last in
    elim c.if-has_long_steps.branch [
      | then-has_long_steps w ↦ record {
        same_kept = ap length w.kept-is ∙ w.keep_part.ensures.same_kept ∙ so_far.same_kept;
        kept_few =
            λ t.
            let held = w.hold.ensures.held in
            let from = held.from ∙ ap (end_before (numbers_of c.args.directory.now.format) (words_of c.args.directory.now)) w.hold.ensures.index in
            let to = held.to ∙ ap (stated_end (numbers_of c.args.directory.now.format) (words_of c.args.directory.now)) w.hold.ensures.index in
            omega (
              arith,
              so_far.kept_few t,
              ap (count_reaching t) w.kept-is,
              w.keep_part.ensures.kept xs held.values c.args.directory.now.stated.rising t,
              ap (λ n. count_reaching t (slice_range steps n w.hold.result.part.to)) from,
              ap (λ n. count_reaching t (slice_range steps i n)) to,
              count-range t steps i j (omega (arith, p.some)),
              ap (taken t) (end-before-next (numbers_of c.args.directory.now.format) (words_of c.args.directory.now) index),
            );
        longest =
            let held = w.hold.ensures.held in
            let from = held.from ∙ ap (end_before (numbers_of c.args.directory.now.format) (words_of c.args.directory.now)) w.hold.ensures.index in
            let to = held.to ∙ ap (stated_end (numbers_of c.args.directory.now.format) (words_of c.args.directory.now)) w.hold.ensures.index in
            let taken_here : long index ≡ slice_range steps i j =
            here ∙ long-taken xs i j c.stated_part.result.0.from c.stated_part.result.0.to c.stated_part.result.0.u _ _ told.from told.to same_universe whole c.args.directory.now.count (c.has_long_steps.ensures.0 w.if-has_long_steps.true) in
            let read : slice_range steps w.hold.result.part.from w.hold.result.part.to ≡ long index = ap (λ n. slice_range steps n w.hold.result.part.to) from ∙ ap (slice_range steps i) to ∙ sym taken_here in
            subst (KeepsLongest c.args.kept.now (flat_map long (range_with_len 0 (index + 1)))) (sym w.kept-is)
            (keep-part long index c.args.kept.now kept w.keep_part.new.kept so_far.same_kept so_far.longest
            (subst (λ ss. KeepsLongest kept ss w.keep_part.new.kept) read (w.keep_part.ensures.kept xs held.values c.args.directory.now.stated.rising)));
      }
      | else-has_long_steps w ↦ record {
        same_kept = ap length w.kept-is ∙ so_far.same_kept;
        kept_few =
            λ t.
            omega (arith, so_far.kept_few t, ap (count_reaching t) w.kept-is, count-range t steps i j (omega (arith, p.some)), ap (taken t) (end-before-next (numbers_of c.args.directory.now.format) (words_of c.args.directory.now) index));
        longest =
            let short : c.stated_part.result.0.u * c.args.directory.now.m < 2 * (c.entry-universe.result.last + 1) * (c.stated_part.result.0.to - c.stated_part.result.0.from) =
            lt-from_not_le _ _ (λ long. never _ (c.has_long_steps.ensures.1 long) w.if-has_long_steps.false) in
            let passed : long index ≡ [] =
            here ∙ short-passed xs i j c.stated_part.result.0.from c.stated_part.result.0.to c.stated_part.result.0.u _ _ told.from told.to same_universe whole c.args.directory.now.count short in
            subst (KeepsLongest c.args.kept.now (flat_map long (range_with_len 0 (index + 1)))) (sym w.kept-is)
            (keep-part long index c.args.kept.now kept kept so_far.same_kept so_far.longest (subst (λ ss. KeepsLongest kept ss kept) (sym passed) (keep-none kept)));
      }
    ]

pub returns-clause-kept : goal.returns-clause-kept
returns-clause-kept c t =
    let xs : List ℕ = (sequence_of c.args.directory.now).values in
    let end : c.parts.index ≡ c.args.directory.now.parts = omega (arith, c.parts.auto.index-end, c.parts-test.false) in
    let all : take (end_before (numbers_of c.args.directory.now.format) (words_of c.args.directory.now) c.parts.index) (steps_from 0 xs) ≡ steps_from 0 xs = take_all _ _ (omega (arith, c.args.directory.now.stated.end, ap (end_before (numbers_of c.args.directory.now.format) (words_of c.args.directory.now)) end, steps-length 0 xs)) in
    omega (arith, c.parts.invariant.kept_few t, ap (count_reaching t) all)

pub returns-clause-longest : goal.returns-clause-longest
unfolding steps_of_long_parts
returns-clause-longest c =
    let format = numbers_of c.args.directory.now.format in
    let v : SequenceView = sequence_of c.args.directory.now in
    let long : ℕ → List ℕ = λ q. steps_if_long v.values (start_of_part v.ends q) (slice_index v.ends q) in
    let end : c.parts.index ≡ length v.ends = omega (arith, c.parts.auto.index-end, c.parts-test.false, count-ends format (words_of c.args.directory.now) c.args.directory.now.parts) in
    subst (λ n. KeepsLongest c.args.kept.now (flat_map long (range_with_len 0 n)) c.parts.kept) end c.parts.invariant.longest
