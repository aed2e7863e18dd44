use Rattle.std.proofs.Common.{ℕ, ◌+◌, ◌-◌, ◌*◌, ◌^◌, ◌≤◌, List, subst, arith}
use Rattle.std.proofs.lemmas.Option.{MatchOption-at_some}
use Rattle.bit_words.specs.Bits.{bits_of, ones_between, IsNthZero}
use Rattle.bit_words.proofs.Outcomes.{some-from}
use Rattle.elias_fano.specs.EfPlaces.{low_fields_at}
use Rattle.elias_fano.specs.EfView.{Holds}
use Rattle.elias_fano.proofs.Views.{within-held}
use Rattle.elias_fano.proofs.Passing.{not-all-below}
use Rattle.elias_fano.proofs.Numbered.{IsPastZeros, zero-passed, zero-there, place-inside}
use Rattle.elias_fano.proofs.EfView.pass_all_zeros.Given as given
use Rattle.elias_fano.proofs.EfView.pass_all_zeros.Goals as goal
use Rattle.elias_fano.proofs.EfView.pass_all_zeros.Goals.{After-unwrap-zero}

pub low_fields-requires : goal.low_fields-requires
low_fields-requires g c = (omega arith, within-held g.row.Q c.args.self.now c.requires.held.0 c.requires.held.1)

pub nth_zero-requires-clause-range : goal.nth_zero-requires-clause-range
nth_zero-requires-clause-range g c = omega (arith, c.low_fields.ensures, within-held g.row.Q c.args.self.now c.requires.held.0 c.requires.held.1)

pub unwrap-zero-requires : goal.unwrap-zero-requires
unwrap-zero-requires g c =
    let v = c.args.self.now in
    let a = c.args in
    let bits = bits_of v.part.bits.words.now in
    let n : ℕ = a.high - (a.place - v.part.place - a.passed) - 1 in
    some-from c.nth_zero.result (c.low_fields.result ≤ a.place + ones_between bits a.place c.low_fields.result + n) c.nth_zero.ensures.none
    (λ none.
    let there : v.part.place + low_fields_at v.part.u v.part.m v.low ≤ a.place + ones_between bits a.place (v.part.place + low_fields_at v.part.u v.part.m v.low) + n =
    subst (λ e. e ≤ a.place + ones_between bits a.place e + n) c.low_fields.ensures none in
    zero-there g.row.Q v c.requires.held.0 c.requires.held.1 a.passed a.place a.high (c.requires.past c.requires.held.0 c.requires.held.1) c.requires.few (place-inside g.row.Q v c.requires.held.0 c.requires.held.1 a.passed a.place a.high (c.requires.past c.requires.held.0 c.requires.held.1) c.requires.few c.requires.reached) c.requires.reached there)

-- what is passed behind that zero
zero-known : (g : given.Over) (c : After-unwrap-zero g) → (ys : List ℕ) → Holds g.row.Q c.args.self.now ys → IsPastZeros g.row.Q c.args.self.now ys c.args.high (c.unwrap-zero.result + 1 - c.args.self.now.part.place - c.args.high) (c.unwrap-zero.result + 1)
zero-known g c ys h =
    zero-passed g.row.Q c.args.self.now ys h c.args.passed c.args.place c.low_fields.result c.args.high c.unwrap-zero.result (c.requires.past ys h) c.requires.few (omega (arith, c.low_fields.ensures))
    (MatchOption-at_some _ (λ p. IsNthZero (bits_of c.args.self.now.part.bits.words.now) c.args.place c.low_fields.result (c.args.high - (c.args.place - c.args.self.now.part.place - c.args.passed) - 1) p) c.unwrap-zero.result c.unwrap-zero.ensures c.nth_zero.ensures.some)

pub returns-clause-within : goal.returns-clause-within
returns-clause-within g c =
    let passed = zero-known g (goal.at.returns-clause-within g c).After-unwrap-zero c.requires.held.0 c.requires.held.1 in
    not-all-below c.args.self.now.part.u c.args.self.now.part.m c.requires.held.0 c.requires.held.1.values c.args.from (c.unwrap-zero.result + 1 - c.args.self.now.part.place - c.args.high) (c.args.high * 2 ^ c.args.self.now.low) c.requires.within passed.past.few c.requires.reached (passed.below c.args.from)

pub returns-clause-past : goal.returns-clause-past
returns-clause-past g c = λ ys h. (zero-known g (goal.at.returns-clause-past g c).After-unwrap-zero ys h).past

pub returns-clause-below : goal.returns-clause-below
returns-clause-below g c = λ ys h. (zero-known g (goal.at.returns-clause-below g c).After-unwrap-zero ys h).below c.args.from
