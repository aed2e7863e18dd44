use Rattle.std.proofs.Common.{◌≡◌, ◌∙◌, sym, ap, subst, length, arith}
use Rattle.collection_model.specs.Collection.{greatest_freq}
use Rattle.collection_model.specs.Sequences.{postings_in}
use Rattle.cursor_api.specs.NextGeq.{IsCursorAt}
use Rattle.two_level.specs.SequenceView.{SequencePlace}
use Rattle.postings.proofs.Lists.{in-length}
use Rattle.postings.proofs.cursor.PostingCursor.move_to.Goals as goal

pub move_to-requires : goal.move_to-requires
move_to-requires c =
    let s = c.args.self.now in
    record { within = omega (arith, c.requires.within, in-length s.docs.sequence.values s.sums.sequence.values s.same_length) }

pub invariant_of-self : goal.invariant_of-self
invariant_of-self c =
    let s = c.args.self.now in
    let moved : SequencePlace = c.move_to.new.self in
    let same : s.docs.sequence.values ≡ moved.sequence.values = sym (ap (λ q. q.values) c.move_to.ensures.sequence) in
    record {
      same_length = subst (λ xs. length xs ≡ length s.sums.sequence.values) same s.same_length;
      count = s.count ∙ ap length same;
      lag = omega (arith, s.lag, c.move_to.ensures.place, c.requires.later);
      before = s.before;
      cursor = subst (λ xs. IsCursorAt (postings_in xs s.sums.sequence.values) moved.place) same (record {
        well_formed = s.cursor.well_formed;
        within = omega (arith, c.move_to.ensures.place, c.requires.within);
      });
      greatest = subst (λ xs. s.max ≡ greatest_freq (postings_in xs s.sums.sequence.values)) same s.greatest;
    }
