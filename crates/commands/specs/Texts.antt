-- What the commands promise that print a text.
use Rattle.std.specs.Prelude.{◌≡◌, ℕ, ◌⊎◌, IsTrue, List, Err, ◌+◌, ◌≤◌}
use Rattle.commands.specs.Names.{Collection, Format, Two, numbers_of, DepotState, ListParts, IndexView, Outside, Outcome, is_refusal, done, FindsIndex, AreBuilt, BuildsWordsThen, IndexAt, Does, Text, Nothing}
use Rattle.pef_report.specs.Generated.{generated}
use Rattle.command_model.specs.AuditText.{IsAuditText, fewest_audited, most_audited}
use Rattle.command_model.specs.GeneratedText.{IsGeneratedText}
use Rattle.command_model.specs.SummaryLine.{summary_line}
use Rattle.outcomes.specs.declared.stop.Stop.TheVariants.{NoMemory}
use Rattle.command_ends.specs.PrintedText.{PrintsText}

-- the format in which a generated collection is built
abbrev pub generate_format : Format
generate_format = Two

-- The words of this collection were built, of which the costs were counted,
-- and the text is what is told of them.
abbrev pub IsGeneration : Collection → Outside → Outside → List ℕ → Type 0
IsGeneration c old new text =
    (parts : List ListParts)
    × AreBuilt generate_format (λ built. built ≡ c) old.costs new.costs c parts
    × IsGeneratedText (numbers_of generate_format) c parts text

-- A run builds the words of the collection of a seed, with n documents and t lists,
-- and prints what is told of them.
abbrev pub MakesGeneration : ℕ → ℕ → ℕ → Outside → Outside → Outcome → Type 0
MakesGeneration seed n t old new =
    BuildsWordsThen generate_format (λ built. built ≡ generated seed n t) old new
    (PrintsText (IsGeneration (generated seed n t) old new) old new)

-- `generate SEED N T` reads nothing, and does so.
abbrev pub Generates : ℕ → ℕ → ℕ → Outside → Outside → Outcome → Type 0
Generates seed n t = Does Nothing Text (MakesGeneration seed n t)

-- The text is the line of an index that stands under the name.
abbrev pub IsInspection : List ℕ → DepotState → List ℕ → Type 0
IsInspection name depot text =
    (i : IndexView) × FindsIndex (numbers_of i.format) name depot i.collection i.parts
    × (text ≡ summary_line i)

-- `inspect INDEX` reads an index, plain or packed, and prints its line; no part cost is counted.
pub record Inspects (index : List ℕ) (old new : Outside) (outcome : Outcome) : Type 0 where
  pub does : Does (IndexAt index) Text (PrintsText (IsInspection index old.depot)) old new outcome
  pub costs : new.costs ≡ old.costs

-- This index stands under the name, and its lines are printed. No more part costs are counted than
-- its sequences allow, and where all is done no fewer than they ask for.
pub record PrintsAuditOf (i : IndexView) (name : List ℕ) (old new : Outside) (outcome : Outcome)
    : Type 0 where
  pub found : FindsIndex (numbers_of i.format) name old.depot i.collection i.parts
  pub lines : PrintsText (IsAuditText i) old new outcome
  pub at_least : outcome ≡ done → old.costs + fewest_audited i ≤ new.costs
  pub at_most : new.costs ≤ old.costs + most_audited i

-- Memory is refused before the lines are begun: nothing is printed, and no part cost is counted.
pub record EndsBefore (old new : Outside) (outcome : Outcome) : Type 0 where
  pub no_memory : outcome ≡ Err NoMemory
  pub out : new.out ≡ old.out
  pub costs : new.costs ≡ old.costs

-- A run prints the lines of an index that stands under the name, and ends so.
-- Want of memory may come before.
abbrev pub PrintsFoundAudit : List ℕ → Outside → Outside → Outcome → Type 0
PrintsFoundAudit name old new outcome =
    EndsBefore old new outcome ⊎ ((i : IndexView) × PrintsAuditOf i name old new outcome)

-- `audit INDEX` reads an index, plain or packed, and prints its lines;
-- no part cost is counted of one that is refused.
pub record Audits (index : List ℕ) (old new : Outside) (outcome : Outcome) : Type 0 where
  pub does : Does (IndexAt index) Text (PrintsFoundAudit index) old new outcome
  pub refused : IsTrue (is_refusal outcome) → new.costs ≡ old.costs
