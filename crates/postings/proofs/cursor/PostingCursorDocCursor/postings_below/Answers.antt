use Rattle.std.proofs.Common.{◌≡◌, ◌+◌, ◌-◌, sym, ap, subst, ◌∙◌, get_or, arith}
use Rattle.collection_model.specs.NextBelow.{AreNextBelow}
use Rattle.collection_model.specs.Sequences.{steps_from}
use Rattle.postings.proofs.Lists.{in-docs, in-freqs}
use Rattle.postings.proofs.cursor.PostingCursorDocCursor.postings_below.Goals as goal

pub returns-then-count-gt0-clause-docs : goal.returns-then-count-gt0-clause-docs
returns-then-count-gt0-clause-docs c =
    let s = c.args.self.now in
    subst (λ xs. AreNextBelow xs s.docs.place c.args.end c.take_docs-count.new.docs c.take_docs-count.result) (sym (in-docs s.docs.sequence.values s.sums.sequence.values s.same_length)) c.take_docs-count.ensures.docs

pub take_freqs-requires : goal.take_freqs-requires
take_freqs-requires c =
    let s = c.args.self.now in
    let moved = c.take_docs-count.new.self in
    record {
      some = omega arith;
      fits = omega (arith, c.take_docs-count.ensures.docs.room, c.take_docs-count.ensures.room, c.requires.room);
      ahead = omega (arith, s.lag, c.place.ensures, c.take_docs-count.ensures.place, ap (λ q. q.place) c.take_docs-count.ensures.sums);
      reached = omega (arith, c.place.ensures, c.take_docs-count.ensures.place);
    }

pub returns-then-count-gt0-clause-freqs : goal.returns-then-count-gt0-clause-freqs
returns-then-count-gt0-clause-freqs c = λ j lt.
    let s = c.args.self.now in
    let sums = s.sums.sequence.values in
    let first : c.place.result - c.take_docs-count.result ≡ s.docs.place = omega (arith, c.place.ensures, c.take_docs-count.ensures.place) in
    c.take_freqs.ensures.freqs j lt
    ∙ (λ i. get_or (steps_from 0 (c.take_docs-count.ensures.sums i).sequence.values) (first i + j) 0)
    ∙ ap (λ xs. get_or xs (s.docs.place + j) 0) (sym (in-freqs s.docs.sequence.values sums s.same_length))

pub returns-else-count-gt0-clause-docs : goal.returns-else-count-gt0-clause-docs
returns-else-count-gt0-clause-docs c =
    let s = c.args.self.now in
    subst (λ xs. AreNextBelow xs s.docs.place c.args.end c.take_docs-count.new.docs c.take_docs-count.result) (sym (in-docs s.docs.sequence.values s.sums.sequence.values s.same_length)) c.take_docs-count.ensures.docs
