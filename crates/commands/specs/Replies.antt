-- What the commands promise that answer the lines of the input.
use Rattle.std.specs.Prelude.{◌≡◌, ℕ, List}
use Rattle.commands.specs.Names.{Collection, Format, Two, numbers_of, DepotState, ListParts, FindsCollection, Outside, Outcome, AreBuilt, BuildsWordsThen, CollectionAt, IndexAt, IndexesAt, SideAt, Does, Replies, Source, Finds, Alike}
use Rattle.command_ends.specs.AnsweredText.{AnswersInput}

-- the format with whose limits `answer` reads, and in which it builds
abbrev pub answer_format : Format
answer_format = Two

-- A collection that `answer` accepts stands under the base.
abbrev pub IsAnswerable : List ℕ → DepotState → Collection → Type 0
IsAnswerable base depot c = FindsCollection (numbers_of answer_format) base depot c

-- It is accepted, and its words were built, of which the costs were counted.
abbrev pub IsBuiltFrom : List ℕ → Outside → Outside → Collection → Type 0
IsBuiltFrom base old new c =
    (parts : List ListParts)
    × AreBuilt answer_format (IsAnswerable base old.depot) old.costs new.costs c parts

-- A run builds the words of a collection, and answers the input.
abbrev pub MakesAnswers : List ℕ → Outside → Outside → Outcome → Type 0
MakesAnswers base old new =
    BuildsWordsThen answer_format (IsAnswerable base old.depot) old new
    (AnswersInput (IsBuiltFrom base old new) old new)

-- `answer BASE` reads a collection and does so.
abbrev pub Answers : List ℕ → Outside → Outside → Outcome → Type 0
Answers base = Does (CollectionAt (numbers_of answer_format) base) Replies (MakesAnswers base)

-- A run reads a source and answers the input from its collection; no part cost is counted.
pub record AnswersFrom (source : Source) (old new : Outside) (outcome : Outcome) : Type 0 where
  pub does : Does source Replies (AnswersInput (Finds source old.depot)) old new outcome
  pub costs : new.costs ≡ old.costs

-- `query INDEX` reads an index of any format, and answers from it;
-- `iquery INDEX` does so by another plan.
abbrev pub Queries : List ℕ → Outside → Outside → Outcome → Type 0
Queries index = AnswersFrom (IndexAt index)

-- `bquery INDEX SIDE` reads an index of any format and then its side file, and answers from both.
abbrev pub QueriesBlocks : List ℕ → List ℕ → Outside → Outside → Outcome → Type 0
QueriesBlocks index side = AnswersFrom (SideAt index side)

-- `segments INDEX..` reads indexes of any format, each of which is accepted before the next is
-- read, and answers from the collection that they are joined to, by every plan alike.
abbrev pub AnswersSegments : List (List ℕ) → Outside → Outside → Outcome → Type 0
AnswersSegments names = AnswersFrom (IndexesAt Alike names)
