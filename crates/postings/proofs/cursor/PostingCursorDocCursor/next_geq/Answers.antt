use Rattle.std.proofs.Common.{◌≡◌, ℕ, ◌≤◌, ◌∙◌, sym, ap, subst, List, length, arith}
use Rattle.collection_model.specs.Collection.{Posting, greatest_freq}
use Rattle.collection_model.specs.Sequences.{postings_in}
use Rattle.cursor_api.specs.NextGeq.{IsCursorAt, next_geq_place}
use Rattle.two_level.specs.SequenceView.{SequencePlace, place_at_least}
use Rattle.postings.proofs.Lists.{next-among_docs, next-within}
use Rattle.postings.proofs.cursor.PostingCursorDocCursor.next_geq.Goals as goal

-- a cursor that goes to the next place stands in its list
stands-at : (list : List Posting) (place d found : ℕ) → IsCursorAt list place → found ≡ next_geq_place list place d → IsCursorAt list found
stands-at list place d found at is =
    record { well_formed = at.well_formed; within = omega (arith, is, next-within list place d at.within) }

pub returns-clause-place : goal.returns-clause-place
returns-clause-place c =
    let s = c.args.self.now in
    c.next_geq.ensures.place ∙ ap (place_at_least s.docs.sequence.values s.docs.place) c.from.ensures ∙ next-among_docs s.docs.sequence.values s.sums.sequence.values s.docs.place c.args.d s.same_length

pub invariant_of-self : goal.invariant_of-self
invariant_of-self c =
    let s = c.args.self.now in
    let moved : SequencePlace = c.next_geq.new.self in
    let same : s.docs.sequence.values ≡ moved.sequence.values = sym (ap (λ q. q.values) c.next_geq.ensures.sequence) in
    let le : s.docs.place ≤ next_geq_place (postings_in s.docs.sequence.values s.sums.sequence.values) s.docs.place c.args.d = omega arith in
    let place : moved.place ≡ next_geq_place (postings_in s.docs.sequence.values s.sums.sequence.values) s.docs.place c.args.d =
    c.next_geq.ensures.place ∙ ap (place_at_least s.docs.sequence.values s.docs.place) c.from.ensures ∙ next-among_docs s.docs.sequence.values s.sums.sequence.values s.docs.place c.args.d s.same_length in
    record {
      same_length = subst (λ xs. length xs ≡ length s.sums.sequence.values) same s.same_length;
      count = s.count ∙ ap length same;
      lag = omega (arith, s.lag, place, le);
      before = s.before;
      cursor = subst (λ xs. IsCursorAt (postings_in xs s.sums.sequence.values) moved.place) same (stands-at (postings_in s.docs.sequence.values s.sums.sequence.values) s.docs.place c.args.d moved.place s.cursor place);
      greatest = subst (λ xs. s.max ≡ greatest_freq (postings_in xs s.sums.sequence.values)) same s.greatest;
    }
