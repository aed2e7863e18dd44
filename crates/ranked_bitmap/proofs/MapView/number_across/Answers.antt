use Rattle.std.proofs.Common.{◌+◌, ◌*◌, ◌/◌, ◌<◌, ap, sym, arith, ◌∙◌, slice_index}
use Rattle.bit_words.specs.Bits.{bits_of, IsFirstOne}
use Rattle.ranked_bitmap.proofs.Views.{within-held, number-found, gap-count, run-within, run-behind}
use Rattle.ranked_bitmap.proofs.MapView.number_across.Goals as goal

pub next_one-requires-clause-ordered : goal.next_one-requires-clause-ordered
next_one-requires-clause-ordered g c =
    omega (arith, run-behind g.row.B c.args.least c.args.self.now.spacing)

pub next_one-requires-clause-range : goal.next_one-requires-clause-range
next_one-requires-clause-range g c =
    omega (arith, run-within g.row.B (c.args.least / g.row.B + 2) c.args.self.now.part.u (omega (arith, c.args.self.now.part.some, c.args.self.now.part.fit)) (omega (arith, c.if-run-self.false)), within-held g.row.B c.args.self.now c.requires.held.0 c.requires.held.1)

pub returns-in-Some : goal.returns-in-Some
returns-in-Some g c = λ ys h.
    let v = c.args.self.now in
    let first = c.in-Some.ensures.first in
    let wide : IsFirstOne (bits_of v.part.bits.words.now) (v.part.place + c.args.least) (v.part.place + v.part.u) c.in-Some.one = record {
      at_or_after = first.at_or_after;
      before_end = omega (arith, first.before_end, run-within g.row.B (c.args.least / g.row.B + 2) v.part.u (omega (arith, v.part.some, v.part.fit)) (omega (arith, c.if-run-self.false)));
      one = first.one;
      first = first.first;
    } in
    number-found g.row.B v ys h c.args.least c.in-Some.one c.requires.within wide

pub returns-in-None : goal.returns-in-None
returns-in-None g c = λ ys h.
    let run = c.args.least / g.row.B + 2 in
    let inside : g.row.B * run < c.args.self.now.part.u = run-within g.row.B run c.args.self.now.part.u (omega (arith, c.args.self.now.part.some, c.args.self.now.part.fit)) (omega (arith, c.if-run-self.false)) in
    c.first_from_run.ensures ys h
    ∙ ap (λ n. slice_index ys n) (sym (gap-count g.row.B c.args.self.now ys h c.args.least (g.row.B * run) (omega (arith, run-behind g.row.B c.args.least c.args.self.now.spacing)) (omega arith) c.in-None.ensures.none))
