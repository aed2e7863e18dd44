use Rattle.std.proofs.Common.{◌≡◌, ◌+◌, ◌^◌, ◌≤◌, ◌<◌, List, ℕ, true, arith}
use Rattle.std.specs.Prelude.{slice_index}
use Rattle.collection_model.specs.Marks.{has_number}
use Rattle.part_codec.specs.PartView.{Holds}
use Rattle.part_codec.proofs.Relative.{relative-held}
use Rattle.index_file.specs.Gaps.{place_in, AreHere, IsOn}
use Rattle.index_file.proofs.NumbersRead.{full-tells, here-marked, on-both, one-set, part-small, passed-on, word-marked}
use Rattle.index_file.proofs.gaps.pass_shown.Goals as goal
use Rattle.index_file.proofs.gaps.pass_shown.Goals.{After-pass_marks-near, Else-near, Then-marks, Else-marks}

pub pass_marks-near-requires-clause-held : goal.pass_marks-near-requires-clause-held
pass_marks-near-requires-clause-held c =
    let h = c.requires.held in
    (h.0, part-small c.args.part.now h.0 h.1 c.requires.small c.requires.few, h.2)

-- as far as the marks that are kept show
near : (c : After-pass_marks-near) → (ys : List ℕ) → Holds c.args.part.now ys → AreHere ys c.args.numbers.now c.args.run → IsOn ys c.pass_marks-near.new.numbers (place_in c.args.run) c.pass_marks-near.result
near c ys held here = c.pass_marks-near.ensures.on ys (relative-held c.args.part.now ys held).rising here

pub overflow_add-near : goal.overflow_add-near
overflow_add-near c =
    let h = c.requires.held in
    omega (arith, (near (goal.at.overflow_add-near c).After-pass_marks-near h.0 h.1 h.2).here.within)

pub returns-then-near-clause-on : goal.returns-then-near-clause-on
returns-then-near-clause-on c ys held here = near (goal.at.returns-then-near-clause-on c).After-pass_marks-near ys held here

pub offset_bounds-numbers-near : goal.offset_bounds-numbers-near
offset_bounds-numbers-near c =
    let h = c.requires.held in
    let on = (near (goal.at.offset_bounds-numbers-near c).After-pass_marks-near h.0 h.1 h.2).here in
    omega (arith, on.within, on.room, c.pass_marks-near.ensures.room)

pub bounds-numbers-near : goal.bounds-numbers-near
bounds-numbers-near c =
    let h = c.requires.held in
    let on = (near (goal.at.bounds-numbers-near c).After-pass_marks-near h.0 h.1 h.2).here in
    omega (arith, on.within, on.room)

-- a full word
full : (c : Then-marks) → (ys : List ℕ) → Holds c.args.part.now ys → AreHere ys c.args.numbers.now c.args.run → (i : ℕ) → 1 ≤ i → i ≤ 63 → has_number (slice_index c.pass_marks-near.new.numbers c.pass_marks-near.result.at + i) ys ≡ true
full c ys held here = full-tells ys (slice_index c.pass_marks-near.new.numbers c.pass_marks-near.result.at) c.marks_from-marks.result (c.marks_from-marks.ensures ys held) c.if-marks.true

-- where it ends
ends : (c : Then-marks) → (ys : List ℕ) → Holds c.args.part.now ys → AreHere ys c.args.numbers.now c.args.run
    → (c.pass_marks-near.result.first + c.pass_marks-near.result.at + 63 < 2 ^ 32) × (slice_index c.pass_marks-near.new.numbers c.pass_marks-near.result.at + 63 < 2 ^ 63)
ends c ys held here =
    let small = part-small c.args.part.now ys held c.requires.small c.requires.few in
    let new = c.pass_marks-near.new.numbers in
    let on = passed-on ys new new c.pass_marks-near.result 63 small.rising (near (goal.at.Then-marks c).After-pass_marks-near ys held here).here (full c ys held here) in
    (omega (arith, on.0, small.few), omega (arith, on.1, small.small (place_in c.pass_marks-near.result + 63) on.0))

pub overflow_add-numbers : goal.overflow_add-numbers
overflow_add-numbers c =
    let h = c.requires.held in
    omega (arith, (ends (goal.at.overflow_add-numbers c).Then-marks h.0 h.1 h.2).1)

pub overflow_cast-result : goal.overflow_cast-result
overflow_cast-result c =
    let h = c.requires.held in
    omega (arith, (ends (goal.at.overflow_cast-result c).Then-marks h.0 h.1 h.2).0)

pub overflow_add-result : goal.overflow_add-result
overflow_add-result c =
    let h = c.requires.held in
    omega (arith, (ends (goal.at.overflow_add-result c).Then-marks h.0 h.1 h.2).0)

pub overflow_add-result-then-marks : goal.overflow_add-result-then-marks
overflow_add-result-then-marks c =
    let h = c.requires.held in
    omega (arith, (ends (goal.at.overflow_add-result-then-marks c).Then-marks h.0 h.1 h.2).0)

pub returns-then-marks-clause-on : goal.returns-then-marks-clause-on
returns-then-marks-clause-on c ys held here =
    let at = goal.at.returns-then-marks-clause-on c in
    let new = c.pass_marks-near.new.numbers in
    let on = near at.After-pass_marks-near ys held here in
    let set = one-set new (slice_index new c.pass_marks-near.result.at + 63) (omega (arith, c.requires.room, c.pass_marks-near.ensures.room)) in
    on-both ys new _ (place_in c.args.run) c.pass_marks-near.result _ on
    ((passed-on ys new _ c.pass_marks-near.result 63 (relative-held c.args.part.now ys held).rising on.here (full at.Then-marks ys held here)).2 set.0 set.1)

pub pass_marks-requires-clause-last : goal.pass_marks-requires-clause-last
pass_marks-requires-clause-last c =
    let h = c.requires.held in
    omega (arith, (near (goal.at.pass_marks-requires-clause-last c).After-pass_marks-near h.0 h.1 h.2).here.within, c.if-near.false)

-- the new marks are kept
kept : (c : Else-marks) → (ys : List ℕ) → Holds c.args.part.now ys → AreHere ys c.args.numbers.now c.args.run
    → AreHere ys c.pass_marks-near.new.numbers (record { first = c.pass_marks-near.result.first; at = c.pass_marks-near.result.at; count = c.pass_marks-near.result.count; marks = c.marks_from-marks.result })
kept c ys held here =
    let on = near (goal.at.Else-marks c).After-pass_marks-near ys held here in
    let new = c.pass_marks-near.new.numbers in
    let marks = c.marks_from-marks.result in
    here-marked ys new c.pass_marks-near.result _ on.here (omega (arith, on.here.within, c.if-near.false)) (λ _. c.pass_marks-near.result.first) (λ _. c.pass_marks-near.result.at) (λ _. c.pass_marks-near.result.count)
    (word-marked ys (slice_index new c.pass_marks-near.result.at) marks (c.marks_from-marks.ensures ys held) (omega arith)) (omega (arith, c.if-marks.false))

pub pass_marks-requires-clause-held : goal.pass_marks-requires-clause-held
pass_marks-requires-clause-held c =
    let h = c.requires.held in
    (h.0, part-small c.args.part.now h.0 h.1 c.requires.small c.requires.few, kept (goal.at.pass_marks-requires-clause-held c).Else-marks h.0 h.1 h.2)

pub returns-clause-on : goal.returns-clause-on
returns-clause-on c ys held here =
    let at = goal.at.returns-clause-on c in
    on-both ys c.pass_marks-near.new.numbers _ (place_in c.args.run) c.pass_marks-near.result _ (near at.After-pass_marks-near ys held here)
    (c.pass_marks.ensures.on ys (relative-held c.args.part.now ys held).rising (kept at.Else-marks ys held here))
