use Rattle.std.proofs.Common.{◌≡◌, ℕ, List, sym, ◌∙◌, subst}
use Rattle.collection_model.specs.FormatNumbers.{FormatNumbers}
use Rattle.part_cost.specs.Formats.{numbers_of}
use Rattle.sequence_words.specs.SequenceView.{SequenceView, BeginWith, sequence_stated}
use Rattle.sequence_words.specs.Laws.{WordsState}
use Rattle.two_level.proofs.view.SeqView.known.Goals as goal

-- words that begin with a sequence of the format state it
states : (format : FormatNumbers) → WordsState format → (words : List ℕ) (parts m : ℕ) (v : SequenceView) → v.format ≡ format → BeginWith words parts m v → sequence_stated format words parts ≡ v
states format state words parts m v same b =
    subst (λ f. WordsState f → sequence_stated f words parts ≡ v) same (λ law. law m b.0 parts b.1 v.values v.ends words b.2 b.3) state

pub at_front-requires-clause-begun : goal.at_front-requires-clause-begun
at_front-requires-clause-begun c =
    let v = c.requires.checked.0 in
    let is = states (numbers_of c.args.format) (c.words_state_their_sequence.ensures c.args.format) c.args.words.now c.args.parts c.args.m v c.requires.checked.1 c.requires.checked.2 in
    subst (BeginWith c.args.words.now c.args.parts c.args.m) (sym is) c.requires.checked.2

pub returns-clause-same : goal.returns-clause-same
returns-clause-same c v same b = c.at_front.ensures ∙ states (numbers_of c.args.format) (c.words_state_their_sequence.ensures c.args.format) c.args.words.now c.args.parts c.args.m v same b
