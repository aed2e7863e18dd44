use Rattle.std.proofs.Common.{◌+◌, ◌*◌, sym, ap, ◌∙◌, arith}
use Rattle.bit_words.specs.Bits.{bits_of}
use Rattle.packed_list.specs.Gamma.{zeros_at, gamma_at}
use Rattle.pefidx_c.proofs.ListHeads.{head-places}
use Rattle.pefidx_c.proofs.heads.places_by_head.Goals as goal

pub gamma_behind-count-requires-clause-zeros : goal.gamma_behind-count-requires-clause-zeros
gamma_behind-count-requires-clause-zeros c =
    let h = head-places c.args.documents c.args.words.now c.args.from c.args.head (omega (arith, c.ranges.documents.fits)) c.requires.list c.requires.head in
    h.zeros_is

pub gamma_behind-count-requires-clause-range : goal.gamma_behind-count-requires-clause-range
gamma_behind-count-requires-clause-range c =
    let h = head-places c.args.documents c.args.words.now c.args.from c.args.head (omega (arith, c.ranges.documents.fits)) c.requires.list c.requires.head in
    omega (arith, h.zeros_is, h.within)

pub gamma_behind-greatest-requires-clause-zeros : goal.gamma_behind-greatest-requires-clause-zeros
gamma_behind-greatest-requires-clause-zeros c =
    let h = head-places c.args.documents c.args.words.now c.args.from c.args.head (omega (arith, c.ranges.documents.fits)) c.requires.list c.requires.head in
    h.others_is ∙ ap (λ z. zeros_at (bits_of c.args.words.now) (c.args.from + 2 * z + 1)) (sym h.zeros_is)

pub gamma_behind-greatest-requires-clause-range : goal.gamma_behind-greatest-requires-clause-range
gamma_behind-greatest-requires-clause-range c =
    let h = head-places c.args.documents c.args.words.now c.args.from c.args.head (omega (arith, c.ranges.documents.fits)) c.requires.list c.requires.head in
    omega (arith, h.zeros_is, h.others_is, h.within)

pub returns-clause-greatest : goal.returns-clause-greatest
returns-clause-greatest c =
    let h = head-places c.args.documents c.args.words.now c.args.from c.args.head (omega (arith, c.ranges.documents.fits)) c.requires.list c.requires.head in
    c.gamma_behind-greatest.ensures ∙ ap (λ z. gamma_at (bits_of c.args.words.now) (c.args.from + 2 * z + 1)) h.zeros_is

pub returns-clause-docs : goal.returns-clause-docs
returns-clause-docs c =
    let h = head-places c.args.documents c.args.words.now c.args.from c.args.head (omega (arith, c.ranges.documents.fits)) c.requires.list c.requires.head in
    (λ j. c.args.from + 2 * h.zeros_is j + 1 + 2 * h.others_is j + 1)

pub returns-clause-sums : goal.returns-clause-sums
returns-clause-sums c =
    let h = head-places c.args.documents c.args.words.now c.args.from c.args.head (omega (arith, c.ranges.documents.fits)) c.requires.list c.requires.head in
    h.sums_is
