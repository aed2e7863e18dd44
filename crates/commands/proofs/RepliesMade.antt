-- What the commands leave that answer the input from the collection of their source.
use Rattle.std.proofs.Common.{◌≡◌, ℕ, refl, inl, IsErrAnd, Result, Err}
use Rattle.commands.proofs.Names.{Collection, SourceState, SinkState, DepotState, AnswersText, Stop, outside, AnswersInput, longest_text, Source, Starts, Replies, IsRead, IsUnread, Leaves, outcome_by, stop_of_answering, stops, Answer, handed_on, source_answered, Finds, AnswersFrom}

module _ (source : Source) {d d' : DepotState} {i : SourceState} {o : SinkState} (e e' : SinkState) (n : ℕ) where
  -- the source was not read
  pub replies_stopped : (it : Stop) (r : Result (Unit {0}) Stop) → IsErrAnd r (λ f. f ≡ it) → IsUnread source d d' (Err it)
      → Leaves (AnswersFrom source) (Starts source) (outside d i o e n) (outside d' i o e' n) r
  replies_stopped it r is w =
      stops source Replies (AnswersInput (Finds source d)) (outside d i o e n) (outside d' i o e' n) refl refl it r (handed_on r is) w (inl (record { input = refl; out = refl }))
      (λ other does. record { does = does; costs = refl })

  -- it was, and the input was answered, or a part of it
  pub replies_made : {i' : SourceState} {o' : SinkState} → IsRead source d d' → (c : Collection) → Finds source d c → (answer : Answer) → AnswersText c longest_text i i' o o' answer
      → (r : Result (Unit {0}) Stop) → r ≡ outcome_by stop_of_answering answer → Leaves (AnswersFrom source) (Starts source) (outside d i o e n) (outside d' i' o' e' n) r
  replies_made {i'} {o'} read c found answer a r is = source_answered source d d' read i i' o o' e e' n c found answer a r is (λ does. record { does = does; costs = refl })
