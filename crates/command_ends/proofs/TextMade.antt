-- What a run leaves that prints a text, or answers one, behind a source that was read.
use Rattle.std.proofs.Common.{◌≡◌, List, ℕ, arith, ◌≢◌, ◌≤◌, ◌<◌, length}
use Rattle.std.specs.Prelude.{IsTrue, Result, OnOk, Err}
use Rattle.index_printing.specs.PrintLine.{PrintsLine}
use Rattle.outcomes.specs.declared.stop.Stop.{Stop}
use Rattle.outcomes.specs.declared.stop.Stop.TheVariants.{InputTooLarge}
use Rattle.outcomes.specs.Outside.{Outside, Told, NoCallFailed, OfInput, OfOut, outside}
use Rattle.outcomes.specs.Outcome.{is_refusal, done, Outcome}
use Rattle.outcomes.specs.Stops.{outcome_by, stop_of_printing, stop_of_answering}
use Rattle.outcomes.proofs.Counted.{Called, longer_than}
use Rattle.command_ends.specs.PrintedText.{PrintsText}
use Rattle.collection_model.specs.Collection.{Collection}
use Rattle.text_replies.specs.declared.text.RunFault.{RunFault}
use Rattle.text_replies.specs.declared.text.RunFault.TheVariants as answering
use Rattle.text_replies.specs.AnswerText.{AnswersText}
use Rattle.outcomes.specs.Ends.{OrTooLarge}
use Rattle.command_ends.specs.AnsweredText.{AnswersInput, MustAnswer, longest_text}
use Rattle.io_traits.specs.SourceState.{SourceState}
use Rattle.io_traits.specs.SinkState.{SinkState}
use Rattle.io_traits.specs.DepotState.{DepotState}
use Rattle.command_ends.specs.Sources.{Source, Finds, Starts}
use Rattle.command_ends.specs.Products.{Completes, Does, Replies, Text}
use Rattle.command_ends.specs.Steps.AtSource.{IsRead}
use Rattle.command_ends.specs.Steps.Leaves.{Leaves}
use Rattle.command_ends.proofs.Made.{made}
use Rattle.command_ends.proofs.SourceRead.{promised}

-- ---- printing

abbrev pub Printed : Type 0
Printed = Called

-- no printing is a refusal of what was read
pub no_print_refuses : {P : Type 0} (r : Printed) → IsTrue (is_refusal (outcome_by stop_of_printing r)) → P
no_print_refuses r h = grind arith

-- what holds of a text that was printed holds where all is done
pub where_done : {P : Type 0} (r : Printed) → OnOk r P → outcome_by stop_of_printing r ≡ done → P
where_done r p is = grind arith

-- what printing promises of a text is what the run promises of it
pub prints : (Is : List ℕ → Type 0) (line : List ℕ) → Is line → (old new : Outside) (r : Printed) → PrintsLine line old.out new.out r → PrintsText Is old new (outcome_by stop_of_printing r)
prints Is line is old new r p = grind arith

-- ---- answering

abbrev pub Answer : Type 0
Answer = Result (Unit {0}) RunFault

-- what `answer_text` promises over a collection that was found is what the run promises of its text
pub answers_input : (Is : Collection → Type 0) (c : Collection) → Is c → (old new : Outside) (r : Answer)
    → AnswersText c longest_text old.input new.input old.out new.out r → AnswersInput Is old new (outcome_by stop_of_answering r)
answers_input Is c is old new r a = grind arith

-- a text within the limit is answered whole, and a longer one is not
by_length : (A : Type 0) (n : ℕ) (r : Answer) → r ≢ Err answering.Read → r ≢ Err answering.Write → (r ≡ Err answering.TooLarge → longest_text < n) → OnOk r (A × (n ≤ longest_text))
    → (n ≤ longest_text → OrTooLarge done (outcome_by stop_of_answering r)) × (longest_text < n → OrTooLarge (Err InputTooLarge) (outcome_by stop_of_answering r))
by_length A n r read write large whole = grind arith

pub must_answer : (Is : Collection → Type 0) (c : Collection) (old new : Outside) (r : Answer)
    → AnswersText c longest_text old.input new.input old.out new.out r → MustAnswer Is old new (outcome_by stop_of_answering r)
must_answer Is c old new r a =
    let ends = λ (t : Told old) (none : NoCallFailed old new).
    by_length _ (length old.input.left) r (λ e. none OfInput (a.read_only_where_it_rose e)) (λ e. none OfOut (a.write_only_where_it_rose e))
    (λ e. longer_than old.input.left new.input.left longest_text (a.longer t.input e)) (a.to_end t.input) in
    record { complete = λ t x is none. (ends t none).0; limited = λ t x is none. (ends t none).1 }

-- ---- behind a source

module _ (source : Source) (Makes : Outside → Outside → Outcome → Type 0) (d d' : DepotState) (read : IsRead source d d') where
  -- a text was printed, or a prefix of it
  pub text_printed : (i : SourceState) (o o' e e' : SinkState) (n n' : ℕ) (text : List ℕ) (r : Printed) → PrintsLine text o o' r
      → Makes (outside d i o e n) (outside d' i o' e' n') (outcome_by stop_of_printing r)
      → Leaves (Does source Text Makes) (Starts source) (outside d i o e n) (outside d' i o' e' n') (outcome_by stop_of_printing r)
  text_printed i o o' e e' n n' text r p makes =
      let old : Outside = outside d i o e n in
      let new : Outside = outside d' i o' e' n' in
      let complete : Completes source Text old new (outcome_by stop_of_printing r) = λ stands none. grind (arith, none OfOut) in
      made source old new d' read Text Makes (outcome_by stop_of_printing r) (grind (arith, complete)) makes

  -- the input was answered, or a part of it
  pub text_answered : (i i' : SourceState) (o o' e e' : SinkState) (n n' : ℕ) (c : Collection) (r : Answer) → AnswersText c longest_text i i' o o' r
      → Makes (outside d i o e n) (outside d' i' o' e' n') (outcome_by stop_of_answering r)
      → Leaves (Does source Replies Makes) (Starts source) (outside d i o e n) (outside d' i' o' e' n') (outcome_by stop_of_answering r)
  text_answered i i' o o' e e' n n' c r a makes =
      let old : Outside = outside d i o e n in
      let new : Outside = outside d' i' o' e' n' in
      made source old new d' read Replies Makes (outcome_by stop_of_answering r) (grind (arith, must_answer (Finds source d) c old new r a)) makes

-- What a command leaves that answers the input from the collection of its source.
pub source_answered : (source : Source) {Promises : Outside → Outside → Outcome → Type 0} (d d' : DepotState) → IsRead source d d' → (i i' : SourceState) (o o' e e' : SinkState) (n : ℕ)
    (c : Collection) → Finds source d c → (answer : Answer) → AnswersText c longest_text i i' o o' answer → (r : Result (Unit {0}) Stop) → r ≡ outcome_by stop_of_answering answer
    → (Does source Replies (AnswersInput (Finds source d)) (outside d i o e n) (outside d' i' o' e' n) (outcome_by stop_of_answering answer)
    → Promises (outside d i o e n) (outside d' i' o' e' n) (outcome_by stop_of_answering answer))
    → Leaves Promises (Starts source) (outside d i o e n) (outside d' i' o' e' n) r
source_answered source d d' read i i' o o' e e' n c found answer a r is more =
    promised (outside d i o e n) (outside d' i' o' e' n) (outcome_by stop_of_answering answer) r is more
    (text_answered source (AnswersInput (Finds source d)) d d' read i i' o o' e e' n n c answer a
    (answers_input (Finds source d) c found (outside d i o e n) (outside d' i' o' e' n) answer a))
