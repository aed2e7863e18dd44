use Rattle.std.proofs.Common.{◌≡◌, ℕ, ◌+◌, ◌-◌, ◌<◌, ◌≤◌, ◌∙◌, sym, ap, List, length, slice_index, arith}
use Rattle.collection_model.specs.Sequences.{postings_in, steps_from}
use Rattle.part_cost.specs.Span.{past}
use Rattle.cursor_api.specs.NextGeq.{IsCursorList}
use Rattle.postings.specs.Blocks.{AreSumsFrom}
use Rattle.postings.proofs.Blocks.{sums-small, sums-read, last-read}
use Rattle.postings.proofs.cursor.next_freqs.Goals as goal

pub values_on-requires-clause-small : goal.values_on-requires-clause-small
values_on-requires-clause-small c = sums-small c.requires.list.0 c.args.sums.now.sequence.values c.requires.list.1 c.requires.list.2

pub sums_to_freqs-behind-requires : goal.sums_to_freqs-behind-requires
sums_to_freqs-behind-requires c =
    let s = c.args.sums.now in
    record {
      sums = (
        s.sequence.values,
        s.place,
        sums-read c.requires.list.0 s.sequence.values c.values_on.new.to s.place 18446744073709551615 (length c.args.freqs.now) c.args.past c.requires.list.1 c.requires.list.2 c.values_on.ensures.values (sym c.values_on.ensures.room) c.requires.past,
      );
    }

-- the last of the frequencies that were read, and one more than the sum behind it
last : (docs xs given freqs : List ℕ) (from past_it behind : ℕ) → length docs ≡ length xs → IsCursorList (postings_in docs xs) → AreSumsFrom xs from given past_it → 0 < length given → length freqs ≡ length given
    → ((j : ℕ) → j < length given → slice_index freqs j ≡ slice_index (steps_from 0 xs) (from + j)) → behind ≡ past xs (from + length given)
    → (slice_index freqs (length freqs - 1) ≤ behind) × (behind - slice_index freqs (length freqs - 1) ≡ past xs (from + length given - 1))
last docs xs given freqs from past_it behind same list are some room turned is =
    last-read docs xs freqs from (length given) behind (length freqs - 1) same list some are.within is
    (turned (length freqs - 1) (omega (arith, some, room)) ∙ ap (slice_index (steps_from 0 xs)) (let e : from + (length freqs - 1) ≡ from + length given - 1 = omega (arith, some, room) in e))

pub overflow_sub-result-2 : goal.overflow_sub-result-2
overflow_sub-result-2 c =
    let s = c.args.sums.now in
    let xs : List ℕ = s.sequence.values in
    let read = c.sums_to_freqs-behind.ensures in
    let are = sums-read c.requires.list.0 xs c.values_on.new.to s.place 18446744073709551615 (length c.args.freqs.now) c.args.past c.requires.list.1 c.requires.list.2 c.values_on.ensures.values (sym c.values_on.ensures.room) c.requires.past in
    (last c.requires.list.0 xs c.values_on.new.to c.sums_to_freqs-behind.new.sums s.place c.args.past c.sums_to_freqs-behind.result c.requires.list.1 c.requires.list.2 are (omega (arith, c.requires.some, c.values_on.ensures.room)) read.room (read.freqs xs s.place are) (read.past xs s.place are)).0

pub returns-clause-freqs : goal.returns-clause-freqs
returns-clause-freqs c = λ j lt.
    let s = c.args.sums.now in
    let xs : List ℕ = s.sequence.values in
    let are = sums-read c.requires.list.0 xs c.values_on.new.to s.place 18446744073709551615 (length c.args.freqs.now) c.args.past c.requires.list.1 c.requires.list.2 c.values_on.ensures.values (sym c.values_on.ensures.room) c.requires.past in
    c.sums_to_freqs-behind.ensures.freqs xs s.place are j (omega (arith, lt, c.values_on.ensures.room))

pub returns-clause-past : goal.returns-clause-past
returns-clause-past c =
    let s = c.args.sums.now in
    let xs : List ℕ = s.sequence.values in
    let read = c.sums_to_freqs-behind.ensures in
    let are = sums-read c.requires.list.0 xs c.values_on.new.to s.place 18446744073709551615 (length c.args.freqs.now) c.args.past c.requires.list.1 c.requires.list.2 c.values_on.ensures.values (sym c.values_on.ensures.room) c.requires.past in
    (last c.requires.list.0 xs c.values_on.new.to c.sums_to_freqs-behind.new.sums s.place c.args.past c.sums_to_freqs-behind.result c.requires.list.1 c.requires.list.2 are (omega (arith, c.requires.some, c.values_on.ensures.room)) read.room (read.freqs xs s.place are) (read.past xs s.place are)).1
    ∙ ap (past xs) (let e : s.place + length c.values_on.new.to - 1 ≡ c.values_on.new.self.place = omega (arith, c.values_on.ensures.place, c.values_on.ensures.room) in e)
