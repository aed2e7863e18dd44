use Rattle.std.proofs.Common.{◌+◌, ◌-◌, ◌≤◌, arith}
use Rattle.std.proofs.lemmas.Option.{MatchOption-at_some}
use Rattle.bit_words.specs.Bits.{bits_of, ones_between, IsNthOne}
use Rattle.bit_words.proofs.Outcomes.{some-from}
use Rattle.ranked_bitmap.proofs.Views.{within-held, number-numbered, numbered-there}
use Rattle.ranked_bitmap.proofs.MapView.number_behind.Goals as goal

pub nth_one-requires-clause-range : goal.nth_one-requires-clause-range
nth_one-requires-clause-range g c = omega (arith, within-held g.row.B c.args.self.now c.requires.held.0 c.requires.held.1)

pub unwrap-one-requires : goal.unwrap-one-requires
unwrap-one-requires g c =
    some-from c.nth_one.result (ones_between (bits_of c.args.self.now.part.bits.words.now) (c.args.self.now.part.place + c.args.from.at) (c.args.self.now.part.place + c.args.self.now.part.u) ≤ c.args.k - c.args.from.below) c.nth_one.ensures.none
    (λ none. numbered-there g.row.B c.args.self.now c.requires.held.0 c.requires.held.1 c.args.k c.args.from.at c.args.from.below c.requires.from.within c.requires.from.rank c.requires.from.few c.requires.within none)

pub returns : goal.returns
returns g c = λ ys h.
    number-numbered g.row.B c.args.self.now ys h c.args.k c.args.from.at c.args.from.below c.unwrap-one.result c.requires.from.within c.requires.from.rank c.requires.from.few
    (MatchOption-at_some _ (λ p. IsNthOne (bits_of c.args.self.now.part.bits.words.now) (c.args.self.now.part.place + c.args.from.at) (c.args.self.now.part.place + c.args.self.now.part.u) (c.args.k - c.args.from.below) p) c.unwrap-one.result c.unwrap-one.ensures c.nth_one.ensures.some)
