use Rattle.std.proofs.Common.{◌≡◌, ◌+◌, ◌-◌, ◌/◌, ◌^◌, ◌≤◌, List, ℕ, true, refl, sym, ap, ◌∙◌, arith}
use Rattle.std.specs.Prelude.{slice_index}
use Rattle.std.specs.Int.{w64, trailing_zeros}
use Rattle.std.specs.List.Sorted.{IsStrictlyIncreasing}
use Rattle.collection_model.specs.Marks.{has_number}
use Rattle.index_file.specs.Gaps.{AreHere}
use Rattle.index_file.proofs.NumbersRead.{NearGap, marked-at, near-shown, none-lowest, one-set, ones-tell, passed-on, two-set}
use Rattle.index_file.proofs.gaps.pass_marks.Goals as goal
use Rattle.index_file.proofs.gaps.pass_marks.Goals.{Else-follow-eq0, Else-behind-eq0}

-- so many follow
ones : (c : Else-follow-eq0) → (ys : List ℕ) → AreHere ys c.args.numbers.now c.args.run → (i : ℕ) → 1 ≤ i → i ≤ c.trailing_ones-follow.result - 1 → has_number (slice_index c.args.numbers.now c.args.run.at + i) ys ≡ true
ones c ys here =
    ones-tell ys (slice_index c.args.numbers.now c.args.run.at) c.args.run.marks c.trailing_ones-follow.result (marked-at ys c.args.numbers.now c.args.run here c.requires.last) here.not_all c.trailing_ones-follow.ensures

-- how many places no number has
abbrev zeros : (c : Else-behind-eq0) → ℕ
zeros c = trailing_zeros w64 (c.args.run.marks / 2 ^ c.trailing_ones-follow.result)

-- where the next number is shown
near : (c : Else-behind-eq0) → (ys : List ℕ) → IsStrictlyIncreasing ys → AreHere ys c.args.numbers.now c.args.run → NearGap ys c.args.numbers.now c.args.run c.args.run.marks c.trailing_ones-follow.result (zeros c)
near c ys rising here =
    near-shown ys c.args.numbers.now c.args.run c.trailing_ones-follow.result (zeros c) rising here c.requires.last c.if-behind-eq0.false c.trailing_ones-follow.ensures refl

pub returns-then-follow-eq0-clause-gap : goal.returns-then-follow-eq0-clause-gap
returns-then-follow-eq0-clause-gap c ys rising here shows =
    absurd (none-lowest ys c.args.numbers.now c.args.run here (sym c.trailing_ones-follow.ensures ∙ c.if-follow-eq0.true) shows)

pub overflow_add-first-2 : goal.overflow_add-first-2
overflow_add-first-2 c =
    let h = c.requires.held in
    let on = passed-on h.0 c.args.numbers.now c.args.numbers.now c.args.run (c.trailing_ones-follow.result - 1) h.1.rising h.2 (ones (goal.at.overflow_add-first-2 c).Else-follow-eq0 h.0 h.2) in
    omega (arith, on.0, h.1.few)

pub returns-then-behind-eq0-clause-on : goal.returns-then-behind-eq0-clause-on
returns-then-behind-eq0-clause-on c ys rising here =
    let number : ℕ = slice_index c.args.numbers.now c.args.run.at in
    let set = one-set c.args.numbers.now (number + c.from.result) c.requires.room in
    (passed-on ys c.args.numbers.now _ c.args.run (c.trailing_ones-follow.result - 1) rising here (ones (goal.at.returns-then-behind-eq0-clause-on c).Else-follow-eq0 ys here)).2 set.0 (set.1 ∙ ap (λ f. number + f) c.from.ensures)

pub returns-clause-gap : goal.returns-clause-gap
returns-clause-gap c ys rising here shows =
    let a = (goal.at.returns-clause-gap c).Else-behind-eq0 in
    let number : ℕ = slice_index c.args.numbers.now c.args.run.at in
    let follow : ℕ = c.trailing_ones-follow.result in
    let n = near a ys rising here in
    let set = two-set c.args.numbers.now (number + c.from.result) (number + c.from.result + 1 + c.from-2.result) c.requires.room in
    let first : number + c.from.result ≡ number + follow - 1 = omega (arith, c.from.ensures, n.some) in
    let second : number + c.from.result + 1 + c.from-2.result ≡ number + follow + zeros a = omega (arith, c.from.ensures, c.from-2.ensures, n.some) in
    n.gap _ set.0 (set.1 ∙ first) (set.2 ∙ second)

pub returns-clause-on : goal.returns-clause-on
returns-clause-on c ys rising here =
    let a = (goal.at.returns-clause-on c).Else-behind-eq0 in
    let number : ℕ = slice_index c.args.numbers.now c.args.run.at in
    let follow : ℕ = c.trailing_ones-follow.result in
    let n = near a ys rising here in
    let set = two-set c.args.numbers.now (number + c.from.result) (number + c.from.result + 1 + c.from-2.result) c.requires.room in
    let first : number + c.from.result ≡ number + follow - 1 = omega (arith, c.from.ensures, n.some) in
    let second : number + c.from.result + 1 + c.from-2.result ≡ number + follow + zeros a = omega (arith, c.from.ensures, c.from-2.ensures, n.some) in
    let gap = n.gap _ set.0 (set.1 ∙ first) (set.2 ∙ second) in
    record { here = gap.here; later = gap.later; follow = gap.follow }
