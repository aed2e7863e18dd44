use Rattle.std.proofs.Common.{◌+◌, arith}
use Rattle.std.proofs.lemmas.Option.{MatchOption-at_some}
use Rattle.bit_words.specs.Bits.{bits_of, IsFirstOne, HasNoOne}
use Rattle.bit_words.proofs.Outcomes.{some-from}
use Rattle.ranked_bitmap.proofs.Views.{within-held, number-found, number-there}
use Rattle.ranked_bitmap.proofs.MapView.next_number.Goals as goal

pub next_one-requires-clause-range : goal.next_one-requires-clause-range
next_one-requires-clause-range g c = omega (arith, within-held g.row.B c.args.self.now c.requires.held.0 c.requires.held.1)

pub unwrap-one-requires : goal.unwrap-one-requires
unwrap-one-requires g c =
    some-from c.next_one.result (HasNoOne (bits_of c.args.self.now.part.bits.words.now) (c.args.self.now.part.place + c.args.least) (c.args.self.now.part.place + c.args.self.now.part.u)) c.next_one.ensures.none
    (λ none. number-there g.row.B c.args.self.now c.requires.held.0 c.requires.held.1 c.args.least c.requires.within none)

pub returns : goal.returns
returns g c = λ ys h.
    number-found g.row.B c.args.self.now ys h c.args.least c.unwrap-one.result c.requires.within
    (MatchOption-at_some _ (λ p. IsFirstOne (bits_of c.args.self.now.part.bits.words.now) (c.args.self.now.part.place + c.args.least) (c.args.self.now.part.place + c.args.self.now.part.u) p) c.unwrap-one.result c.unwrap-one.ensures c.next_one.ensures.first)
