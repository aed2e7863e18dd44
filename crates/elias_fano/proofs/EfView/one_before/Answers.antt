use Rattle.std.proofs.Common.{◌-◌, ◌≤◌, arith}
use Rattle.std.proofs.lemmas.Option.{MatchOption-at_some}
use Rattle.bit_words.specs.Bits.{bits_of, ones_between, IsNthOneBack}
use Rattle.bit_words.proofs.Outcomes.{some-from}
use Rattle.elias_fano.proofs.Views.{within-held}
use Rattle.elias_fano.proofs.Numbered.{back-next, back-there, past-ordered}
use Rattle.elias_fano.proofs.EfView.one_before.Goals as goal

pub nth_one_back-requires-clause-ordered : goal.nth_one_back-requires-clause-ordered
nth_one_back-requires-clause-ordered g c =
    past-ordered c.args.self.now.part.place c.args.self.now.part.m c.args.self.now.low c.requires.held.0 c.requires.held.1.values.rising c.requires.held.1.values.count c.args.passed c.args.more c.args.from c.args.end (c.requires.past c.requires.held.0 c.requires.held.1) (c.requires.end c.requires.held.0 c.requires.held.1)
    (omega (arith, c.requires.ordered, c.requires.before))

pub nth_one_back-requires-clause-range : goal.nth_one_back-requires-clause-range
nth_one_back-requires-clause-range g c = omega (arith, c.requires.inside, within-held g.row.Q c.args.self.now c.requires.held.0 c.requires.held.1)

pub unwrap-requires : goal.unwrap-requires
unwrap-requires g c =
    let h = c.requires.held.1 in
    let a = c.args in
    let up = past-ordered c.args.self.now.part.place c.args.self.now.part.m c.args.self.now.low c.requires.held.0 h.values.rising h.values.count a.passed a.more a.from a.end (c.requires.past c.requires.held.0 h) (c.requires.end c.requires.held.0 h)
    (omega (arith, c.requires.ordered, c.requires.before)) in
    some-from c.nth_one_back.result (ones_between (bits_of c.args.self.now.part.bits.words.now) a.from a.end ≤ a.more - 1 - a.k) c.nth_one_back.ensures.none
    (λ none. back-there g.row.Q c.args.self.now c.requires.held.0 h a.passed a.from a.more a.end a.k (c.requires.past c.requires.held.0 h) (c.requires.end c.requires.held.0 h) c.requires.ordered c.requires.before up c.requires.inside none)

pub returns : goal.returns
returns g c = λ ys h.
    let a = c.args in
    back-next g.row.Q c.args.self.now ys h a.passed a.from a.more a.end a.k c.unwrap.result (c.requires.past ys h) (c.requires.end ys h) c.requires.before c.requires.inside
    (MatchOption-at_some _ (λ p. IsNthOneBack (bits_of c.args.self.now.part.bits.words.now) a.from a.end (a.more - 1 - a.k) p) c.unwrap.result c.unwrap.ensures c.nth_one_back.ensures.some)
