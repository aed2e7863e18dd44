use Rattle.std.proofs.Common.{◌≡◌, ◌+◌, ◌∙◌, sym, ap, subst, length, arith}
use Rattle.collection_model.specs.Collection.{greatest_freq}
use Rattle.collection_model.specs.Sequences.{postings_in}
use Rattle.cursor_api.specs.NextGeq.{IsCursorAt}
use Rattle.two_level.specs.SequenceView.{SequencePlace}
use Rattle.postings.proofs.Lists.{in-length}
use Rattle.postings.proofs.cursor.PostingCursor.take_docs.Goals as goal

pub invariant_of-self : goal.invariant_of-self
invariant_of-self c =
    let s = c.args.self.now in
    let moved : SequencePlace = c.values_below.new.self in
    let same : s.docs.sequence.values ≡ moved.sequence.values = sym (ap (λ q. q.values) c.values_below.ensures.sequence) in
    let place : moved.place ≡ s.docs.place + c.values_below.result = c.values_below.ensures.place in
    record {
      same_length = subst (λ xs. length xs ≡ length s.sums.sequence.values) same s.same_length;
      count = s.count ∙ ap length same;
      lag = omega (arith, s.lag, place);
      before = s.before;
      cursor = subst (λ xs. IsCursorAt (postings_in xs s.sums.sequence.values) moved.place) same (record {
        well_formed = s.cursor.well_formed;
        within = omega (arith, place, c.values_below.ensures.values.within, in-length s.docs.sequence.values s.sums.sequence.values s.same_length);
      });
      greatest = subst (λ xs. s.max ≡ greatest_freq (postings_in xs s.sums.sequence.values)) same s.greatest;
    }
