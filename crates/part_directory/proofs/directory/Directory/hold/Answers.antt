use Rattle.std.proofs.Common.{◌≡◌, ℕ, ◌+◌, ◌≤◌, ◌^◌, List, ap, sym, ◌∙◌, arith}
use Rattle.part_cost.specs.Formats.{numbers_of}
use Rattle.part_cost.specs.Payload.{widest_low}
use Rattle.part_cost.specs.Span.{past}
use Rattle.part_directory.specs.DirectorySequence.{words_of, sequence_of}
use Rattle.sequence_words.specs.SequenceFault.{past_before}
use Rattle.sequence_words.proofs.StatedParts.{below-bound}
use Rattle.part_directory.proofs.directory.Directory.hold.Goals as goal

pub overflow_add-result : goal.overflow_add-result
overflow_add-result c =
    let p = c.args.self.now.stated.part c.args.index c.requires.within in
    omega (arith, c.stated_part.ensures.last, p.small, (c.formats_have_room.ensures c.args.self.now.format).sums)

pub overflow_sub-result : goal.overflow_sub-result
overflow_sub-result c =
    let s = c.stated_part.ensures in
    omega (arith, s.before, s.u, s.last)

pub returns-clause-held : goal.returns-clause-held
returns-clause-held c =
    let format = numbers_of c.args.self.now.format in
    let words : List ℕ = words_of c.args.self.now in
    let d = c.args.self.now.stated in
    let p = d.part c.args.index c.requires.within in
    let xs : List ℕ = (sequence_of c.args.self.now).values in
    let room = (c.formats_have_room.ensures c.args.self.now.format).sums in
    let s = c.stated_part.ensures in
    let part = c.stated_part.result.0 in
    let placed = c.stated_part.result.1 in
    let behind : past xs part.from ≡ past_before format words c.args.index = ap (past xs) s.from ∙ sym p.before in
    let reach : placed.u ≤ part.last + 1 = omega (arith, s.before, s.u, s.last) in
    let some : 1 ≤ placed.u = omega (arith, placed.some, placed.fit) in
    record {
      within = c.requires.within;
      from = s.from;
      to = s.to;
      last = s.last;
      universe_of_part = s.u;
      values = record {
        in_range = below-bound format.most_sum (2 ^ widest_low) xs room d.below;
        within = omega (arith, s.to, p.within);
        few = c.args.self.now.few;
        before = omega (arith, behind, s.before, s.u, s.last, p.above);
        whole = λ many. (let same = s.whole (omega (arith, many, s.count)) in omega (arith, behind, same, s.u, s.last, p.above));
        start = omega (arith, behind, s.last, s.u, p.above);
        small = omega (arith, s.last, p.small, room);
        above = omega (arith, some);
        u = omega (arith, c.at.ensures.u, reach);
        m = c.at.ensures.m ∙ s.count;
        numbers = (c.at.ensures.part _).1 s.held;
        restored = s.restored;
      };
    }
