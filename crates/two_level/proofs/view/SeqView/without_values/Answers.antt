use Rattle.std.proofs.Common.{ℕ, ◌<◌, List, [], refl, arith}
use Rattle.std.proofs.lemmas.List.Elements.{All-nil}
use Rattle.collection_model.specs.FormatNumbers.{FormatNumbers}
use Rattle.part_cost.specs.Formats.{numbers_of}
use Rattle.sequence_words.specs.SequenceView.{SequenceView, BeginWith}
use Rattle.two_level.proofs.view.SeqView.without_values.Goals as goal

abbrev none-view : FormatNumbers → SequenceView
none-view format = record { format = format; values = []; ends = [] }

-- any words begin with the sequence of no values
begins-none : (format : FormatNumbers) (words : List ℕ) → BeginWith words 0 0 (none-view format)
begins-none format words = (
  0,
  0,
  omega arith,
  record {
    within = omega arith;
    sequence = record {
      rising = λ i lt. absurd (omega (arith, lt));
      below = All-nil (λ x. x < 0);
      count = refl;
      few = omega arith;
      partition = refl;
      parts_count = refl;
      spelled = refl;
    };
  },
)

pub known-requires-clause-checked : goal.known-requires-clause-checked
known-requires-clause-checked c = (none-view (numbers_of c.args.format), refl, begins-none (numbers_of c.args.format) _)

pub returns : goal.returns
returns c = c.known.ensures.same (none-view (numbers_of c.args.format)) refl (begins-none (numbers_of c.args.format) _)
