use Rattle.std.proofs.Common.{◌≡◌, ℕ, ◌+◌, ◌≤◌, sym, ap, subst, List, length, take, arith}
use Rattle.std.proofs.lemmas.List.{length-take-le}
use Rattle.collection_model.specs.Sequences.{postings_in}
use Rattle.cursor_api.specs.NextGeq.{IsCursorList}
use Rattle.two_level.specs.SequenceView.{SequenceView, SequencePlace}
use Rattle.postings.specs.declared.cursor.PostingCursor.{PostingCursor}
use Rattle.postings.proofs.Lists.{in-length}
use Rattle.postings.proofs.cursor.PostingCursor.take_freqs.Goals as goal

-- the documents have passed no more places than there are sums
reached : (s : PostingCursor) → s.docs.place ≤ length s.sums.sequence.values
reached s = omega (arith, s.cursor.within, in-length s.docs.sequence.values s.sums.sequence.values s.same_length, s.same_length)

-- sums of the same sequence are those of a cursor's list
of-list : (s : PostingCursor) (moved : SequencePlace) → moved.sequence ≡ s.sums.sequence
    → (docs : List ℕ) × (length docs ≡ length moved.sequence.values) × IsCursorList (postings_in docs moved.sequence.values)
of-list s moved same =
    subst (λ (q : SequenceView). (docs : List ℕ) × (length docs ≡ length q.values) × IsCursorList (postings_in docs q.values)) (sym same)
    (s.docs.sequence.values, s.same_length, s.cursor.well_formed)

pub move_to-requires : goal.move_to-requires
move_to-requires c = record { within = omega (arith, reached c.args.self.now, c.requires.reached) }

pub later_freqs-self-requires : goal.later_freqs-self-requires
later_freqs-self-requires c =
    let s = c.args.self.now in
    let moved : SequencePlace = c.move_to.new.self in
    let room : length (take (c.args.count + 1) c.args.freqs.now) ≡ c.args.count + 1 = length-take-le (c.args.count + 1) c.args.freqs.now (omega arith) in
    record {
      some = omega (arith, room, c.requires.some);
      within = omega (arith, room, c.move_to.ensures.place, ap (λ q. length q.values) c.move_to.ensures.sequence, reached s, c.requires.reached);
      list = of-list s moved c.move_to.ensures.sequence;
    }

pub catch_up-requires : goal.catch_up-requires
catch_up-requires c =
    let s = c.args.self.now in
    record {
      within = omega (arith, reached s, s.same_length, c.requires.reached, c.requires.some);
      ahead = c.requires.ahead;
      reached = omega (arith, c.requires.reached);
    }

pub next_freqs-self-requires : goal.next_freqs-self-requires
next_freqs-self-requires c =
    let s = c.catch_up.new.self in
    let room : length (take c.args.count c.args.freqs.now) ≡ c.args.count = length-take-le c.args.count c.args.freqs.now c.requires.fits in
    record {
      some = omega (arith, room, c.requires.some);
      within = omega (arith, room, c.catch_up.ensures.place, reached s, c.requires.reached, ap (λ q. q.place) c.catch_up.ensures.docs);
      list = (s.docs.sequence.values, s.same_length, s.cursor.well_formed);
      past = s.before;
    }
