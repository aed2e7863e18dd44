use Rattle.std.proofs.Common.{◌+◌, ◌-◌, ◌<◌, arith, refl}
use Rattle.part_directory.proofs.HeldParts.{first-here, value-here, relative-count}
use Rattle.part_directory.proofs.held.HeldPart.in_sequence.Goals as goal

pub overflow_add-result : goal.overflow_add-result
overflow_add-result c =
    omega (arith, c.requires.found.2.2.before, c.requires.found.2.2.first.within, relative-count c.args.self.now c.requires.found.0 c.requires.found.1, c.requires.found.1.within, c.requires.found.1.few)

pub overflow_add-result-2 : goal.overflow_add-result-2
overflow_add-result-2 c =
    let lt : c.args.self.now.part.from + c.args.sought.place < c.args.self.now.part.to = omega (arith, c.requires.found.2.2.before, c.requires.found.2.2.first.within, relative-count c.args.self.now c.requires.found.0 c.requires.found.1) in
    omega (arith, c.requires.found.1.restored c.args.sought.place lt, c.requires.found.2.2.there, c.requires.found.1.in_range (c.args.self.now.part.from + c.args.sought.place) 0 (omega (arith, lt, c.requires.found.1.within)))

pub overflow_add-result-3 : goal.overflow_add-result-3
overflow_add-result-3 c =
    let lt : c.args.self.now.part.from + c.requires.found.2.2.own < c.args.self.now.part.to = omega (arith, c.requires.found.2.2.first.within, relative-count c.args.self.now c.requires.found.0 c.requires.found.1) in
    omega (arith, c.requires.found.1.restored c.requires.found.2.2.own lt, c.requires.found.2.2.number, c.requires.found.1.in_range (c.args.self.now.part.from + c.requires.found.2.2.own) 0 (omega (arith, lt, c.requires.found.1.within)))

pub returns : goal.returns
returns c xs h place x reached s =
    let held = c.args.self.now in
    let few = relative-count held xs h in
    let before : held.part.from + s.own < held.part.to = omega (arith, s.first.within, few) in
    let known = h.restored c.args.sought.place (omega (arith, s.before, before)) in (
      record {
        own = held.part.from + s.own;
        first = first-here held xs h place x (x - held.past) s.own reached refl s.first;
        number = value-here held xs h _ _ s.own c.args.sought.number s.first s.number;
        after = omega (arith, s.after, reached);
        before = omega (arith, s.before);
        there = omega (arith, s.there, known);
      },
      before,
    )
