use Rattle.std.specs.Prelude.{◌≡◌, ℕ, ◌^◌, ◌<◌, ◌≤◌, ◌⊎◌, IsTrue, List, [], ◌++◌, length, take, Err, Ok}
use Rattle.collection_model.specs.Collection.{Collection}
use Rattle.query_text.specs.Lines.{text_lines, ended_lines}
use Rattle.command_model.specs.GotReplies.{TextIsTold, GotReplies, GotPrefixOfReplies}
use Rattle.outcomes.specs.Outside.{Outside, Told, NoCallFailed, IsUnanswered}
use Rattle.outcomes.specs.declared.stop.Stop.TheVariants.{InputFault, OutFault, NoMemory, InputTooLarge}
use Rattle.outcomes.specs.Outcome.{Outcome, done}
use Rattle.outcomes.specs.Ends.{OrTooLarge}

-- the most bytes of query text that are answered
abbrev pub longest_text : ℕ
longest_text = 2 ^ 40

-- A collection of this property was accepted,
-- and, where the input and out tell their bytes, P holds of it.
abbrev pub OnAccepted : (Collection → Type 0) → Outside → (Collection → Type 0) → Type 0
OnAccepted Is old P = (c : Collection) × Is c × (TextIsTold old.input old.out → P c)

-- All lines are answered, and the input is read to its end.
pub record AnswersAll (Is : Collection → Type 0) (old new : Outside) : Type 0 where
  pub replies : OnAccepted Is old (λ c. GotReplies c (text_lines old.input.left) old.out new.out)
  pub read_to_end : IsTrue old.input.tells → new.input.left ≡ []
  pub within : IsTrue old.input.tells → length old.input.left ≤ longest_text

-- The lines that ended within the bytes read are answered.
abbrev pub AnswersRead : (Collection → Type 0) → Outside → Outside → Type 0
AnswersRead Is old new =
    OnAccepted Is old (λ c.
    (read : List ℕ) × (old.input.left ≡ read ++ new.input.left) × (length read ≤ longest_text)
    × GotReplies c (ended_lines read) old.out new.out)

-- Out got a prefix of the replies, also of those to the lines of the bytes within the limit, and
-- what is left of the input is what was not read.
pub record AnswersInPart (Is : Collection → Type 0) (old new : Outside) : Type 0 where
  pub replies : OnAccepted Is old (λ c.
      GotPrefixOfReplies c (text_lines old.input.left) old.out new.out
      × GotPrefixOfReplies c (text_lines (take longest_text old.input.left)) old.out new.out)
  pub taken : IsTrue old.input.tells → (read : List ℕ) × (old.input.left ≡ read ++ new.input.left)

-- More bytes than the limit were read, and the lines that ended within the limit are answered.
pub record AnswersWithin (Is : Collection → Type 0) (old new : Outside) : Type 0 where
  pub replies : OnAccepted Is old (λ c.
      GotReplies c (ended_lines (take longest_text old.input.left)) old.out new.out)
  pub longer : IsTrue old.input.tells →
      (read : List ℕ) × (old.input.left ≡ read ++ new.input.left) × (longest_text < length read)

-- A run answers the input from a collection of this property, and ends so.
-- Want of memory may come before one is accepted.
abbrev pub AnswersInput : (Collection → Type 0) → Outside → Outside → Outcome → Type 0
AnswersInput Is old new (Ok u) = AnswersAll Is old new
AnswersInput Is old new (Err InputFault) = AnswersRead Is old new
AnswersInput Is old new (Err OutFault) = AnswersInPart Is old new
AnswersInput Is old new (Err NoMemory) = IsUnanswered old new ⊎ AnswersInPart Is old new
AnswersInput Is old new (Err InputTooLarge) = AnswersWithin Is old new
AnswersInput Is old new outcome = ⊥

-- A text within the limit is answered whole, and a longer one is refused, where no call fails, no
-- index is too large and memory is not refused.
pub record MustAnswer (Is : Collection → Type 0) (old new : Outside) (outcome : Outcome)
    : Type 0 where
  pub complete : Told old → (c : Collection) → Is c → NoCallFailed old new
      → length old.input.left ≤ longest_text → OrTooLarge done outcome
  pub limited : Told old → (c : Collection) → Is c → NoCallFailed old new
      → longest_text < length old.input.left → OrTooLarge (Err InputTooLarge) outcome
