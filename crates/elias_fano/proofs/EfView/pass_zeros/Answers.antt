use Rattle.std.proofs.Common.{◌≡◌, ℕ, ◌+◌, ◌-◌, ◌*◌, ◌/◌, ◌^◌, ◌≤◌, List, subst, sym, arith}
use Rattle.bit_words.specs.Bits.{bits_of, ones_between}
use Rattle.elias_fano.specs.EfPlaces.{IsPast, AreBelow}
use Rattle.elias_fano.specs.EfView.{Holds}
use Rattle.elias_fano.proofs.Views.{within-held}
use Rattle.elias_fano.proofs.Passing.{not-all-below, ones-passed}
use Rattle.elias_fano.proofs.Numbered.{IsPastZeros, zero-passed, zero-absent, past-inside}
use Rattle.elias_fano.proofs.EfView.pass_zeros.Given as given
use Rattle.elias_fano.proofs.EfView.pass_zeros.Goals as goal
use Rattle.elias_fano.proofs.EfView.pass_zeros.Goals.{In-Some}

pub low_fields-requires : goal.low_fields-requires
low_fields-requires g c = (omega arith, within-held g.row.Q c.args.self.now c.requires.held.0 c.requires.held.1)

pub nth_zero-requires-clause-range : goal.nth_zero-requires-clause-range
nth_zero-requires-clause-range g c = omega (arith, c.min-near.ensures, c.low_fields.ensures, within-held g.row.Q c.args.self.now c.requires.held.0 c.requires.held.1)

pub ones-requires-clause-range : goal.ones-requires-clause-range
ones-requires-clause-range g c = omega (arith, c.min-near.ensures, c.low_fields.ensures, within-held g.row.Q c.args.self.now c.requires.held.0 c.requires.held.1)

pub overflow_add-passed : goal.overflow_add-passed
overflow_add-passed g c =
    let inside = past-inside g.row.Q c.args.self.now c.requires.held.0 c.requires.held.1 c.args.passed c.args.place c.requires.some (c.requires.past c.requires.held.0 c.requires.held.1) in
    let next = ones-passed g.row.Q c.args.self.now c.requires.held.0 c.requires.held.1 c.args.passed c.args.place c.min-near.result (c.requires.past c.requires.held.0 c.requires.held.1) (omega (arith, c.min-near.ensures, c.low_fields.ensures, inside)) (omega (arith, c.min-near.ensures, c.low_fields.ensures)) in
    omega (arith, next.few, c.ones.ensures, c.args.self.now.part.fit, c.args.self.now.part.in_range)

pub pass_gap-requires : goal.pass_gap-requires
pass_gap-requires g c =
    let v = c.args.self.now in
    let ws = v.part.bits.words.now in
    let a = c.args in
    let zs = c.requires.held.0 in
    let held = c.requires.held.1 in
    let near : ℕ = c.min-near.result in
    let inside = past-inside g.row.Q v zs held a.passed a.place c.requires.some (c.requires.past zs held) in
    let up : a.place ≤ near = omega (arith, c.min-near.ensures, c.low_fields.ensures, inside) in
    let fit : near ≤ v.part.place + (v.part.m + (v.part.u - 1) / 2 ^ v.low) = omega (arith, c.min-near.ensures, c.low_fields.ensures) in
    let count : ones_between (bits_of ws) a.place near ≡ c.ones.result = sym c.ones.ensures in
    let past : (ys : List ℕ) → Holds g.row.Q v ys → IsPast v.part.place v.part.m v.low ys (a.passed + c.ones.result) near = λ ys h.
    subst (λ n. IsPast v.part.place v.part.m v.low ys (a.passed + n) near) count (ones-passed g.row.Q v ys h a.passed a.place near (c.requires.past ys h) up fit) in
    let below : (ys : List ℕ) → Holds g.row.Q v ys → AreBelow ys a.from (a.passed + c.ones.result) (a.high * 2 ^ v.low) = λ ys h.
    subst (λ n. AreBelow ys a.from (a.passed + n) (a.high * 2 ^ v.low)) count
    (zero-absent g.row.Q v ys h a.passed a.place near a.high (c.requires.past ys h) (omega (arith, c.if-zeros-high.false)) up fit c.in-None.ensures.none a.from) in
    let some = not-all-below v.part.u v.part.m zs held.values a.from (a.passed + c.ones.result) (a.high * 2 ^ v.low) c.requires.within (past zs held).few c.requires.reached (below zs held) in
    (omega arith, (c.requires.held, (c.requires.within, (c.requires.reached, (some, (past, below))))))

-- what is passed behind that zero
zero-known : (g : given.Over) (c : In-Some g) → (ys : List ℕ) → Holds g.row.Q c.args.self.now ys → IsPastZeros g.row.Q c.args.self.now ys c.args.high (c.in-Some.zero + 1 - c.args.self.now.part.place - c.args.high) (c.in-Some.zero + 1)
zero-known g c ys h =
    zero-passed g.row.Q c.args.self.now ys h c.args.passed c.args.place c.min-near.result c.args.high c.in-Some.zero (c.requires.past ys h) (omega (arith, c.if-zeros-high.false)) (omega (arith, c.min-near.ensures, c.low_fields.ensures))
    c.in-Some.ensures.some

pub returns-in-Some-clause-within : goal.returns-in-Some-clause-within
returns-in-Some-clause-within g c =
    let passed = zero-known g (goal.at.returns-in-Some-clause-within g c).In-Some c.requires.held.0 c.requires.held.1 in
    not-all-below c.args.self.now.part.u c.args.self.now.part.m c.requires.held.0 c.requires.held.1.values c.args.from (c.in-Some.zero + 1 - c.args.self.now.part.place - c.args.high) (c.args.high * 2 ^ c.args.self.now.low) c.requires.within passed.past.few c.requires.reached (passed.below c.args.from)

pub returns-in-Some-clause-past : goal.returns-in-Some-clause-past
returns-in-Some-clause-past g c = λ ys h. (zero-known g (goal.at.returns-in-Some-clause-past g c).In-Some ys h).past

pub returns-in-Some-clause-below : goal.returns-in-Some-clause-below
returns-in-Some-clause-below g c = λ ys h. (zero-known g (goal.at.returns-in-Some-clause-below g c).In-Some ys h).below c.args.from
