use Rattle.std.proofs.Common.{sym, ap, ◌∙◌, subst, ℕ, ◌+◌, ◌&&◌, Bool, length}
use Rattle.collection_model.specs.Marks.{has_number, is_marked}
use Rattle.collection_model.specs.Sequences.{steps_from}
use Rattle.collection_model.proofs.Marks.{has-doc}
use Rattle.collection_model.proofs.Sequences.{steps-length}
use Rattle.two_level.specs.KeptWords.{AreKeptAt}
use Rattle.postings.proofs.cursor.PostingCursorDocCursor.keep_in_words.Goals as goal

pub returns-clause-kept : goal.returns-clause-kept
returns-clause-kept c k lt =
    let s = c.args.self.now in
    let docs = s.docs.sequence.values in
    c.keep_in_words.ensures.kept.kept k lt
    ∙ ap (λ (b : Bool). is_marked c.args.marks.now k && b)
    (ap (λ (first : ℕ). has_number (first + k) docs) c.from.ensures ∙ sym (has-doc (c.args.first + k) docs (steps_from 0 s.sums.sequence.values) (s.same_length ∙ sym (steps-length 0 s.sums.sequence.values))))

pub returns-clause-words : goal.returns-clause-words
returns-clause-words c inside =
    subst (λ (first : ℕ). AreKeptAt c.args.self.now.docs first (length c.args.marks.now) c.keep_in_words.result) c.from.ensures (c.keep_in_words.ensures.words inside)

pub returns-clause-within : goal.returns-clause-within
returns-clause-within c = c.keep_in_words.ensures.kept.within

pub returns-clause-count : goal.returns-clause-count
returns-clause-count c = c.keep_in_words.ensures.kept.count

pub returns-clause-rest : goal.returns-clause-rest
returns-clause-rest c k from lt = c.keep_in_words.ensures.kept.rest k from lt
