use Rattle.std.proofs.Common.{◌≡◌, ◌+◌, ◌-◌, ◌*◌, ◌≤◌, ◌++◌, length, map, take, sym, ap, ◌∙◌, subst, arith}
use Rattle.std.proofs.lemmas.List.{take_all}
use Rattle.collection_model.specs.Collection.{greatest}
use Rattle.collection_model.specs.Sequences.{steps_from}
use Rattle.part_cost.specs.Formats.{numbers_of}
use Rattle.sequence_words.specs.SequenceFault.{first_bit, end_before, IsPartStored}
use Rattle.sequence_words.proofs.Follows.{follows-at}
use Rattle.sequence_words.specs.SequenceView.{sequence_stated}
use Rattle.sequence_words.proofs.Accepting.{all-stand}
use Rattle.sequence_words.proofs.Entries.{EntryRead, reached-next, each-below, place-fits, holds-here}
use Rattle.sequence_words.proofs.StatedParts.{held-as}
use Rattle.sequence_words.proofs.PartSteps.{StepsOf, prefix_stated, prefix-more, part-steps}
use Rattle.sequence_words.proofs.checking.check_parts.Goals as goal

pub overflow_add-place : goal.overflow_add-place
overflow_add-place c =
    let fits = place-fits (numbers_of c.args.format) c.args.words.now c.args.parts c.requires.entries.0 c.requires.entries.1 c.loop-part.part c.entry_at-entry.result.offset c.loop-part-test.true
    (c.requires.entries.5 c.loop-part.part c.loop-part-test.true) c.entry_at-entry.ensures.offset c.requires.within in
    omega (arith, fits, c.directory_bits.ensures.bits, c.requires.words)

pub at-placed-requires-clause-place : goal.at-placed-requires-clause-place
at-placed-requires-clause-place c =
    subst (λ n. n + c.entry_at-entry.result.offset ≤ 64 * length c.args.words.now) (sym c.directory_bits.ensures.bits)
    (place-fits (numbers_of c.args.format) c.args.words.now c.args.parts c.requires.entries.0 c.requires.entries.1 c.loop-part.part c.entry_at-entry.result.offset c.loop-part-test.true
    (c.requires.entries.5 c.loop-part.part c.loop-part-test.true) c.entry_at-entry.ensures.offset c.requires.within)

pub overflow_add-past : goal.overflow_add-past
overflow_add-past c =
    let k = follows-at (numbers_of c.args.format) c.args.words.now c.args.parts c.requires.entries.0 c.requires.entries.1 c.loop-part.part (c.requires.entries.5 c.loop-part.part c.loop-part-test.true) in
    omega (arith, k.below, c.entry_at-entry.ensures.last, c.requires.entries.2, (c.formats_have_room.ensures c.args.format).sums)

pub loop-part-preserved : goal.loop-part-preserved
loop-part-preserved c =
    let last = c.entry_at-entry.result.last in
    let end = c.entry_at-entry.result.end in
    let offset = c.entry_at-entry.result.offset in
    let e : EntryRead (numbers_of c.args.format) c.args.words.now c.loop-part.part last end offset =
    record { last_is = c.entry_at-entry.ensures.last; end_is = c.entry_at-entry.ensures.end; offset_is = c.entry_at-entry.ensures.offset } in
    let held = c.in-Some.ensures.some in
    let p = c.at-placed.ensures in
    let follows = follows-at (numbers_of c.args.format) c.args.words.now c.args.parts c.requires.entries.0 c.requires.entries.1 c.loop-part.part (c.requires.entries.5 c.loop-part.part c.loop-part-test.true) in
    let prefix = prefix_stated (numbers_of c.args.format) c.args.words.now c.args.parts in
    let there = held-as c.at-placed.result.bits.words.now c.args.words.now c.at-placed.result.place (first_bit (numbers_of c.args.format) c.args.parts + offset) c.at-placed.result.u
    (last + 1 - c.loop-part.past) c.at-placed.result.m (end - c.loop-part.before) held.0 p.bits (omega (arith, p.place, c.directory_bits.ensures.bits)) p.u p.m held.1 in
    let here =
    holds-here (numbers_of c.args.format) c.args.words.now c.args.parts c.requires.entries.0 c.requires.entries.1 c.loop-part.part c.loop-part.before c.loop-part.past last end offset
    held.0 c.loop-part.invariant.reached e (c.requires.entries.5 c.loop-part.part c.loop-part-test.true) there in
    record {
      reached = reached-next (numbers_of c.args.format) c.args.words.now c.loop-part.part last end offset e;
      stored = each-below (IsPartStored (numbers_of c.args.format) c.args.words.now c.args.parts) c.loop-part.part c.loop-part.invariant.stored (held.0, here);
      steps =
          subst (StepsOf (numbers_of c.args.format) c.args.words.now c.args.parts (c.loop-part.part + 1) c.args.with_steps) (sym c.max-most.ensures)
          (part-steps c.one_list_at_place.ensures.values (numbers_of c.args.format) c.args.words.now c.args.parts c.requires.entries.0 c.requires.entries.1 c.loop-part.part c.args.with_steps c.loop-part.most c.in-Some.step held.0
          follows here held.2 c.loop-part.invariant.steps);
      given =
          λ some.
          let some_before : 1 ≤ length c.loop-part.to = omega (arith, some, c.check_step.ensures.room) in
          ap (λ n. take n c.check_step.new.to) (let same : end ≡ c.loop-part.before + c.at-placed.result.m = omega (arith, p.m, follows.up, c.loop-part.invariant.reached.before_is, e.end_is) in same)
          ∙ held.3 some_before ∙ ap (λ zs. zs ++ map (λ y. y + c.loop-part.past) held.0) (c.loop-part.invariant.given some_before)
          ∙ ap (λ n. prefix c.loop-part.part ++ map (λ y. y + n) held.0) c.loop-part.invariant.reached.past_is
          ∙ sym (prefix-more c.one_list_at_place.ensures.values (numbers_of c.args.format) c.args.words.now c.args.parts c.loop-part.part held.0 here);
    }

pub returns-clause-values : goal.returns-clause-values
unfolding sequence_stated
returns-clause-values c some =
    let all : c.loop-part.part ≡ c.args.parts = omega (arith, c.loop-part-test.false, c.loop-part.auto.part-end) in
    let format = numbers_of c.args.format in
    let here : c.loop-part.before ≡ c.requires.entries.0 =
    c.loop-part.invariant.reached.before_is ∙ ap (end_before format c.args.words.now) all
    ∙ all-stand format c.args.words.now c.args.parts c.requires.entries.0 c.requires.entries.1 c.requires.entries.3 c.requires.entries.5 in
    sym (take_all c.loop-part.before c.loop-part.to (omega (arith, here, c.requires.entries.4 some, c.loop-part.auto.to)))
    ∙ c.loop-part.invariant.given (omega (arith, some, c.loop-part.auto.to)) ∙ ap (prefix_stated format c.args.words.now c.args.parts) all

pub returns-clause-step : goal.returns-clause-step
unfolding sequence_stated
returns-clause-step c asked =
    let all : c.loop-part.part ≡ c.args.parts = omega (arith, c.loop-part-test.false, c.loop-part.auto.part-end) in
    c.loop-part.invariant.steps.largest asked ∙ ap (λ q. greatest (steps_from 0 (prefix_stated (numbers_of c.args.format) c.args.words.now c.args.parts q))) all
