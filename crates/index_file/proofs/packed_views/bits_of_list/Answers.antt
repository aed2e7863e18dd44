use Rattle.std.proofs.Common.{◌≤◌, ◌-◌, ◌+◌, ℕ, slice_index, ap, arith}
use Rattle.part_codec.specs.PartView.{Holds}
use Rattle.index_file.specs.PackedAt.{packed_terms, starts_stated}
use Rattle.index_file.proofs.PackedStarts.{stands, start-lies, starts-from}
use Rattle.index_file.proofs.packed_views.bits_of_list.Goals as goal
use Rattle.index_file.proofs.packed_views.bits_of_list.Goals.{After-at-starts}

-- the directory holds its numbers
held : (c : After-at-starts) → Holds c.at-starts.result (starts_stated c.args.words.now)
held c =
    let words = c.args.words.now in
    let s = c.starts_part in
    let p = s.result in
    (c.at-starts.ensures.part (starts_stated words)).1
    (starts-from words p.bits.words.now p.place p.u p.m (starts_stated words) s.ensures.bits s.ensures.place s.ensures.u s.ensures.m (stands c.one_list_at_place.ensures.values words c.requires.starts))

-- and each is at least its place
at-least : (c : After-at-starts) → (t : ℕ) → t ≤ packed_terms c.args.words.now → t ≤ slice_index (starts_stated c.args.words.now) t
at-least c t le = (start-lies c.one_list_at_place.ensures.values c.args.words.now c.requires.starts t le).at_least

pub number_at-number-requires-clause-held : goal.number_at-number-requires-clause-held
number_at-number-requires-clause-held c = (starts_stated c.args.words.now, held (goal.at.number_at-number-requires-clause-held c).After-at-starts)

pub number_at-number-requires-clause-within : goal.number_at-number-requires-clause-within
number_at-number-requires-clause-within c = omega (arith, c.at-starts.ensures.m, c.starts_part.ensures.m, c.requires.within)

pub number_after-next-requires-clause-held : goal.number_after-next-requires-clause-held
number_after-next-requires-clause-held c = (starts_stated c.args.words.now, held (goal.at.number_after-next-requires-clause-held c).After-at-starts)

pub number_after-next-requires-clause-within : goal.number_after-next-requires-clause-within
number_after-next-requires-clause-within c = omega (arith, c.at-starts.ensures.m, c.starts_part.ensures.m, c.requires.within)

pub number_after-next-requires-clause-number : goal.number_after-next-requires-clause-number
number_after-next-requires-clause-number c = c.number_at-number.ensures

pub overflow_sub-result : goal.overflow_sub-result
overflow_sub-result c =
    let a = (goal.at.overflow_sub-result c).After-at-starts in
    omega (arith, c.number_at-number.ensures (starts_stated c.args.words.now) (held a), at-least a c.args.t (omega (arith, c.requires.within)))

pub overflow_sub-result-2 : goal.overflow_sub-result-2
overflow_sub-result-2 c =
    let a = (goal.at.overflow_sub-result-2 c).After-at-starts in
    omega (arith, c.number_after-next.ensures (starts_stated c.args.words.now) (held a), at-least a (c.args.t + 1) (omega (arith, c.requires.within)))

pub overflow_sub-result-3 : goal.overflow_sub-result-3
overflow_sub-result-3 c =
    let a = (goal.at.overflow_sub-result-3 c).After-at-starts in
    omega (arith, c.number_after-next.ensures (starts_stated c.args.words.now) (held a), at-least a (c.args.t + 1) (omega (arith, c.requires.within)))

pub returns-clause-from : goal.returns-clause-from
returns-clause-from c = ap (λ k. k - c.args.t) (c.number_at-number.ensures (starts_stated c.args.words.now) (held (goal.at.returns-clause-from c).After-at-starts))

pub returns-clause-to : goal.returns-clause-to
returns-clause-to c = omega (arith, c.number_after-next.ensures (starts_stated c.args.words.now) (held (goal.at.returns-clause-to c).After-at-starts))
