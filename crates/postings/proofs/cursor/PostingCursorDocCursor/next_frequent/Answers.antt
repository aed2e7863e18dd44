use Rattle.std.proofs.Common.{◌≡◌, ℕ, ◌∙◌, ap, List, arith}
use Rattle.collection_model.specs.Collection.{Posting}
use Rattle.collection_model.specs.Sequences.{postings_in, steps_from}
use Rattle.cursor_api.specs.NextGeq.{next_frequent_place}
use Rattle.two_level.specs.SequenceView.{place_at_least}
use Rattle.postings.specs.declared.cursor.PostingCursor.{PostingCursor}
use Rattle.postings.proofs.Lists.{in-length, next-among_steps, frequent-within}
use Rattle.postings.proofs.cursor.PostingCursorDocCursor.next_frequent.Goals as goal

-- the place that is found among the steps is the next one
found-next : (s : PostingCursor) (place f least found : ℕ) → place ≡ s.docs.place → least ≡ f → found ≡ place_at_least (steps_from 0 s.sums.sequence.values) place least
    → found ≡ next_frequent_place (postings_in s.docs.sequence.values s.sums.sequence.values) s.docs.place f
found-next s place f least found here same is =
    is ∙ ap (λ k. place_at_least (steps_from 0 s.sums.sequence.values) k least) here ∙ ap (place_at_least (steps_from 0 s.sums.sequence.values) s.docs.place) same
    ∙ next-among_steps s.docs.sequence.values s.sums.sequence.values s.docs.place f s.same_length

pub first_step-place-requires : goal.first_step-place-requires
first_step-place-requires c =
    let s = c.args.self.now in
    record { within = omega (arith, c.place.ensures, s.cursor.within, s.same_length, in-length s.docs.sequence.values s.sums.sequence.values s.same_length) }

pub move_to-requires : goal.move_to-requires
move_to-requires c =
    let s = c.args.self.now in
    let list : List Posting = postings_in s.docs.sequence.values s.sums.sequence.values in
    let next = found-next s c.place.result c.args.f c.from.result c.first_step-place.result c.place.ensures c.from.ensures c.first_step-place.ensures in
    record { later = omega (arith, next); within = omega (arith, next, frequent-within list s.docs.place c.args.f s.cursor.within) }

pub returns-clause-place : goal.returns-clause-place
returns-clause-place c =
    let s = c.args.self.now in
    c.move_to.ensures.place ∙ found-next s c.place.result c.args.f c.from.result c.first_step-place.result c.place.ensures c.from.ensures c.first_step-place.ensures
