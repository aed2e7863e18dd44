use Rattle.std.proofs.Common.{ℕ, ◌≤◌, List, arith}
use Rattle.part_codec.specs.PartView.{Holds}
use Rattle.part_codec.proofs.Relative.{relative-held}
use Rattle.index_file.specs.Gaps.{place_in, AreHere, IsOn}
use Rattle.index_file.proofs.NumbersRead.{follow-both, gap-here, goes-on, here-rise, here-small, here-within}
use Rattle.index_file.proofs.gaps.find_gap.Goals as goal
use Rattle.index_file.proofs.gaps.find_gap.Goals.{After-pass_shown-shown, then-shown-last-via-then-shown-last, then-shown-last-via-else-shown-last+then-is_at_gap}

-- what the marks show from the start on
shown : (c : After-pass_shown-shown) → (ys : List ℕ) → Holds c.args.part.now ys → AreHere ys c.args.numbers.now c.args.run → IsOn ys c.pass_shown-shown.new.numbers (place_in c.args.run) c.pass_shown-shown.result
shown c ys held start =
    let on = c.pass_shown-shown.ensures.on ys held (c.loop-run.invariant.here ys held start) in
    record {
      here = on.here;
      later = omega (arith, c.loop-run.invariant.later, on.later);
      follow = follow-both ys (place_in c.args.run) (place_in c.loop-run.run) (place_in c.pass_shown-shown.result) (c.loop-run.invariant.follow ys held start) on.follow;
    }

pub overflow_cast-run : goal.overflow_cast-run
overflow_cast-run c =
    let h = c.requires.held in
    omega (arith, here-within c.args.part.now h.0 c.loop-run.numbers c.loop-run.run c.args.last h.1 (c.loop-run.invariant.here h.0 h.1 h.2) c.requires.last, c.ranges.last.fits)

pub overflow_add-run : goal.overflow_add-run
overflow_add-run c =
    let h = c.requires.held in
    omega (arith, here-within c.args.part.now h.0 c.loop-run.numbers c.loop-run.run c.args.last h.1 (c.loop-run.invariant.here h.0 h.1 h.2) c.requires.last, c.ranges.last.fits)

pub loop-run-init : goal.loop-run-init
loop-run-init c = record {
  later = omega arith;
  here = λ ys held here. here;
  follow = λ ys held here t from to. absurd (omega (arith, from, to));
}

-- the number that is shown is no farther than the last
reached : (c : After-pass_shown-shown) → place_in c.pass_shown-shown.result ≤ c.args.last
reached c =
    let h = c.requires.held in
    here-within c.args.part.now h.0 c.pass_shown-shown.new.numbers c.pass_shown-shown.result c.args.last h.1 (shown c h.0 h.1 h.2).here c.requires.last

pub overflow_cast-shown : goal.overflow_cast-shown
overflow_cast-shown c = omega (arith, reached (goal.at.overflow_cast-shown c).After-pass_shown-shown, c.ranges.last.fits)

pub overflow_add-shown : goal.overflow_add-shown
overflow_add-shown c = omega (arith, reached (goal.at.overflow_add-shown c).After-pass_shown-shown, c.ranges.last.fits)

pub is_at_gap-requires-clause-small : goal.is_at_gap-requires-clause-small
is_at_gap-requires-clause-small c =
    let h = c.requires.held in
    here-small c.args.part.now h.0 c.pass_shown-shown.new.numbers c.pass_shown-shown.result h.1 (shown (goal.at.is_at_gap-requires-clause-small c).After-pass_shown-shown h.0 h.1 h.2).here c.requires.small

pub returns-then-shown-last-clause-gap : goal.returns-then-shown-last-clause-gap
returns-then-shown-last-clause-gap c ys held start =
    let on = shown (goal.at.returns-then-shown-last-clause-gap c).After-pass_shown-shown ys held start in
    record {
      here = on.here;
      later = on.later;
      follow = on.follow;
      gap = elim c.then-shown-last.branch [
        | then-shown-last-via-then-shown-last w ↦ λ more. absurd (omega (arith, more, w.if-shown-last.true, (relative-held c.args.part.now ys held).count, c.requires.last))
        | then-shown-last-via-else-shown-last+then-is_at_gap w ↦ λ more.
            let is = w.is_at_gap.ensures.0 w.if-is_at_gap.true in
            (is.0, gap-here ys c.pass_shown-shown.new.numbers c.pass_shown-shown.result on.here is.0 is.1)
      ];
    }

pub with_next-here-requires-clause-more : goal.with_next-here-requires-clause-more
with_next-here-requires-clause-more c = omega (arith, reached (goal.at.with_next-here-requires-clause-more c).After-pass_shown-shown, c.if-shown-last.false, c.requires.last)

pub first_gap-at-requires-clause-rising : goal.first_gap-at-requires-clause-rising
first_gap-at-requires-clause-rising c =
    let h = c.requires.held in
    let on = shown (goal.at.first_gap-at-requires-clause-rising c).After-pass_shown-shown h.0 h.1 h.2 in
    here-rise h.0 c.with_next-here.new.numbers c.with_next-here.result (relative-held c.args.part.now h.0 h.1).rising (c.with_next-here.ensures.here h.0 h.1 on.here)

pub returns-then-at-here-clause-gap : goal.returns-then-at-here-clause-gap
returns-then-at-here-clause-gap c ys held start =
    let so_far = shown (goal.at.returns-then-at-here-clause-gap c).After-pass_shown-shown ys held start in
    let near = c.with_next-here.ensures in
    let gap = c.first_gap-at.ensures in
    let on = goes-on ys c.with_next-here.new.numbers (place_in c.args.run) c.pass_shown-shown.result c.with_next-here.result _ c.first_gap-at.result so_far.later so_far.follow near.place (near.here ys held so_far.here) gap.from gap.within gap.follow
    (λ _. c.with_next-here.result.first) (λ _. c.first_gap-at.result) (λ _. c.with_next-here.result.count) (λ _. c.with_next-here.result.marks) in
    record {
      here = on.here;
      later = on.later;
      follow = on.follow;
      gap = λ more. (c.if-at-here.true, gap-here ys c.with_next-here.new.numbers _ on.here c.if-at-here.true (gap.gap c.if-at-here.true));
    }

pub loop-run-preserved : goal.loop-run-preserved
loop-run-preserved c =
    let a = (goal.at.loop-run-preserved c).After-pass_shown-shown in
    let near = c.with_next-here.ensures in
    let gap = c.first_gap-at.ensures in
    let h = c.requires.held in
    let on : (ys : List ℕ) (held : Holds c.args.part.now ys) → AreHere ys c.args.numbers.now c.args.run → IsOn ys c.with_next-here.new.numbers (place_in c.args.run) _ = λ ys held start.
    let so_far = shown a ys held start in
    goes-on ys c.with_next-here.new.numbers (place_in c.args.run) c.pass_shown-shown.result c.with_next-here.result _ c.first_gap-at.result so_far.later so_far.follow near.place (near.here ys held so_far.here) gap.from gap.within gap.follow
    (λ _. c.with_next-here.result.first) (λ _. c.first_gap-at.result) (λ _. c.with_next-here.result.count) (λ _. c.with_next-here.result.marks) in
    record {
      later = (on h.0 h.1 h.2).later;
      here = λ ys held start. (on ys held start).here;
      follow = λ ys held start. (on ys held start).follow;
    }

pub returns-clause-gap : goal.returns-clause-gap
returns-clause-gap c ys held start =
    let so_far = c.loop-run.invariant in
    record {
      here = so_far.here ys held start;
      later = so_far.later;
      follow = so_far.follow ys held start;
      gap = λ more. absurd (omega (arith, more, c.loop-run-test.false, (relative-held c.args.part.now ys held).count, c.requires.last));
    }
