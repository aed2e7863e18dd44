use Rattle.std.proofs.Common.{◌≡◌, ℕ, ◌+◌, ◌-◌, ◌<◌, ◌≤◌, ◌∙◌, refl, sym, ap, List, length, slice_index, arith}
use Rattle.collection_model.specs.NextBelow.{AreNextBelow}
use Rattle.collection_model.specs.Sequences.{postings_in, steps_from}
use Rattle.part_cost.specs.Span.{past}
use Rattle.cursor_api.specs.NextGeq.{IsCursorList}
use Rattle.postings.specs.Blocks.{AreSumsFrom}
use Rattle.postings.proofs.Blocks.{sums-small, sums-read, last-read}
use Rattle.postings.proofs.cursor.later_freqs.Goals as goal

pub values_on-requires-clause-small : goal.values_on-requires-clause-small
values_on-requires-clause-small c = sums-small c.requires.list.0 c.args.sums.now.sequence.values c.requires.list.1 c.requires.list.2

-- the sums that were read, by one more than the sum before them
read-sums : (docs xs given : List ℕ) (from n : ℕ) → length docs ≡ length xs → IsCursorList (postings_in docs xs) → AreNextBelow xs from 18446744073709551615 given n → length given ≡ n → AreSumsFrom xs from given (past xs from)
read-sums docs xs given from n same list next room = sums-read docs xs given from 18446744073709551615 n (past xs from) same list next (sym room) refl

pub sums_to_later_freqs-behind-requires-clause-sums : goal.sums_to_later_freqs-behind-requires-clause-sums
sums_to_later_freqs-behind-requires-clause-sums c =
    let s = c.args.sums.now in
    (s.sequence.values, s.place, past s.sequence.values s.place, read-sums c.requires.list.0 s.sequence.values c.values_on.new.to s.place (length c.args.freqs.now) c.requires.list.1 c.requires.list.2 c.values_on.ensures.values c.values_on.ensures.room)

-- the last of the frequencies that were read, and one more than the sum behind it
last : (docs xs given freqs : List ℕ) (from behind : ℕ) → length docs ≡ length xs → IsCursorList (postings_in docs xs) → AreSumsFrom xs from given (past xs from) → 1 < length given → length freqs ≡ length given
    → ((j : ℕ) → j + 1 < length given → slice_index freqs j ≡ slice_index (steps_from 0 xs) (from + 1 + j)) → behind ≡ past xs (from + length given)
    → (slice_index freqs (length freqs - 2) ≤ behind) × (behind - slice_index freqs (length freqs - 2) ≡ past xs (from + length given - 1))
last docs xs given freqs from behind same list are some room turned is =
    last-read docs xs freqs from (length given) behind (length freqs - 2) same list (omega (arith, some)) are.within is
    (turned (length freqs - 2) (omega (arith, some, room)) ∙ ap (slice_index (steps_from 0 xs)) (let e : from + 1 + (length freqs - 2) ≡ from + length given - 1 = omega (arith, some, room) in e))

pub overflow_sub-result-2 : goal.overflow_sub-result-2
overflow_sub-result-2 c =
    let s = c.args.sums.now in
    let xs : List ℕ = s.sequence.values in
    let read = c.sums_to_later_freqs-behind.ensures in
    let are = read-sums c.requires.list.0 xs c.values_on.new.to s.place (length c.args.freqs.now) c.requires.list.1 c.requires.list.2 c.values_on.ensures.values c.values_on.ensures.room in
    (last c.requires.list.0 xs c.values_on.new.to c.sums_to_later_freqs-behind.new.sums s.place c.sums_to_later_freqs-behind.result c.requires.list.1 c.requires.list.2 are (omega (arith, c.requires.some, c.values_on.ensures.room)) read.room (read.freqs xs s.place (past xs s.place) are) (read.past xs s.place (past xs s.place) are)).0

pub returns-clause-freqs : goal.returns-clause-freqs
returns-clause-freqs c = λ j lt.
    let s = c.args.sums.now in
    let xs : List ℕ = s.sequence.values in
    let are = read-sums c.requires.list.0 xs c.values_on.new.to s.place (length c.args.freqs.now) c.requires.list.1 c.requires.list.2 c.values_on.ensures.values c.values_on.ensures.room in
    c.sums_to_later_freqs-behind.ensures.freqs xs s.place (past xs s.place) are j (omega (arith, lt, c.values_on.ensures.room))

pub returns-clause-past : goal.returns-clause-past
returns-clause-past c =
    let s = c.args.sums.now in
    let xs : List ℕ = s.sequence.values in
    let read = c.sums_to_later_freqs-behind.ensures in
    let are = read-sums c.requires.list.0 xs c.values_on.new.to s.place (length c.args.freqs.now) c.requires.list.1 c.requires.list.2 c.values_on.ensures.values c.values_on.ensures.room in
    (last c.requires.list.0 xs c.values_on.new.to c.sums_to_later_freqs-behind.new.sums s.place c.sums_to_later_freqs-behind.result c.requires.list.1 c.requires.list.2 are (omega (arith, c.requires.some, c.values_on.ensures.room)) read.room (read.freqs xs s.place (past xs s.place) are) (read.past xs s.place (past xs s.place) are)).1
    ∙ ap (past xs) (let e : s.place + length c.values_on.new.to - 1 ≡ c.values_on.new.self.place = omega (arith, c.values_on.ensures.place, c.values_on.ensures.room) in e)
