use Rattle.std.proofs.Common.{◌≡◌, ℕ, ◌≤◌, ◌<◌, slice_index, ap, sym, ◌∙◌, arith}
use Rattle.part_cost.specs.Formats.{numbers_of}
use Rattle.part_directory.specs.DirectorySequence.{words_of, sequence_of}
use Rattle.sequence_words.specs.SequenceFault.{end_before}
use Rattle.part_directory.proofs.Places.{found-place, found-first, later-place, below-reached, ends-rise}
use Rattle.part_directory.proofs.Standing.{place-at-end, sought-behind, sought-own}
use Rattle.part_directory.proofs.directory.Directory.first_from_part.Goals as goal
use Rattle.part_directory.proofs.directory.Directory.first_from_part.Goals.{After-part_reaching-reaching}

-- the part that is reached begins no earlier
rises : (c : After-part_reaching-reaching) → end_before (numbers_of c.args.self.now.format) (words_of c.args.self.now) c.args.part ≤ end_before (numbers_of c.args.self.now.format) (words_of c.args.self.now) c.part_reaching-reaching.result
rises c = ends-rise (numbers_of c.args.self.now.format) (words_of c.args.self.now) c.args.self.now.parts c.args.part c.part_reaching-reaching.result (sequence_of c.args.self.now) c.args.self.now.stated c.part_reaching-reaching.ensures.after c.part_reaching-reaching.ensures.within

-- and all values before it are too small
small : (c : After-part_reaching-reaching) → (k : ℕ) → end_before (numbers_of c.args.self.now.format) (words_of c.args.self.now) c.args.part ≤ k → k < end_before (numbers_of c.args.self.now.format) (words_of c.args.self.now) c.part_reaching-reaching.result → slice_index (sequence_of c.args.self.now).values k < c.args.x
small c =
    below-reached (numbers_of c.args.self.now.format) (words_of c.args.self.now) c.args.self.now.parts c.args.part c.part_reaching-reaching.result c.args.x (sequence_of c.args.self.now) c.args.self.now.stated c.part_reaching-reaching.ensures.after c.part_reaching-reaching.ensures.within c.part_reaching-reaching.ensures.before

pub returns-then-reaching-self-clause-first : goal.returns-then-reaching-self-clause-first
returns-then-reaching-self-clause-first c =
    let is = c.hold-held.ensures.held in
    let from : c.hold-held.result.part.from ≡ end_before (numbers_of c.args.self.now.format) (words_of c.args.self.now) c.part_reaching-reaching.result = is.from ∙ ap (end_before (numbers_of c.args.self.now.format) (words_of c.args.self.now)) c.hold-held.ensures.index in
    let found = c.seek_first-sought.ensures (sequence_of c.args.self.now).values is.values in
    let s = found.0 in
    sym (sought-own c.hold-held.result (sequence_of c.args.self.now).values c.hold-held.result.part.from c.args.x c.seek_first-sought.result s found.1)
    ∙ found-first (sequence_of c.args.self.now).values c.hold-held.result.part.from s.own c.args.x s.first
    ∙ later-place (sequence_of c.args.self.now).values _ c.hold-held.result.part.from c.args.x (omega (arith, from, rises (goal.at.returns-then-reaching-self-clause-first c).After-part_reaching-reaching)) (omega (arith, s.first.at_or_after, s.first.within))
    (λ k after lt. small (goal.at.returns-then-reaching-self-clause-first c).After-part_reaching-reaching k after (omega (arith, lt, from)))

pub returns-else-reaching-self-clause-first : goal.returns-else-reaching-self-clause-first
returns-else-reaching-self-clause-first c =
    let count = c.args.self.now.count in
    let all = ap (end_before (numbers_of c.args.self.now.format) (words_of c.args.self.now)) (let e : c.part_reaching-reaching.result ≡ c.args.self.now.parts = omega (arith, c.part_reaching-reaching.ensures.within, c.if-reaching-self.false) in e) in
    sym (place-at-end (sequence_of c.args.self.now).values c.args.self.now.m 0 (omega (arith, count)))
    ∙ found-place (sequence_of c.args.self.now).values _ c.args.self.now.m c.args.x (omega (arith, rises (goal.at.returns-else-reaching-self-clause-first c).After-part_reaching-reaching, all, c.args.self.now.stated.end, count)) (omega (arith, count))
    (λ k after lt.
    small (goal.at.returns-else-reaching-self-clause-first c).After-part_reaching-reaching k after (omega (arith, lt, all, c.args.self.now.stated.end, count)))
    (λ lt. absurd (omega (arith, lt, count)))

pub returns-then-reaching-self-clause-behind : goal.returns-then-reaching-self-clause-behind
returns-then-reaching-self-clause-behind c =
    let found = c.seek_first-sought.ensures (sequence_of c.args.self.now).values c.hold-held.ensures.held.values in
    sought-behind c.hold-held.result (sequence_of c.args.self.now).values c.hold-held.result.part.from c.args.x c.seek_first-sought.result found.0 found.1
