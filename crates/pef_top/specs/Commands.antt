use Rattle.std.specs.Prelude.{◌≡◌, Option, Some, None, Err}
use Rattle.pef_top.specs.Names.{SinkState, Status, Command, Build, Query, Answer, Inspect, Generate, Migrate, Audit, Blocks, BlockQuery, Remap, Segments, Export, IntervalQuery, Merge, Outside, GotText, Outcome, Builds, Merges, Migrates, Exports, Queries, migrate_format, WritesBlocks, Remaps, Answers, QueriesBlocks, AnswersSegments, Usage}
use Rattle.outcomes.specs.declared.status.Status.TheVariants as status
use Rattle.outcomes.specs.ErrLines.{usage_line}
use Rattle.commands.specs.Texts.{Inspects, Generates, Audits}

-- Words that are no command end the run with the usage line.
pub record IsUsage (old new : SinkState) (result : Status) : Type 0 where
  pub status : result ≡ status.Usage
  pub err : GotText old new usage_line

-- Words that are no command end the run as usage, and nothing else; no part cost is counted.
pub record RefusesWords (old new : Outside) (outcome : Outcome) : Type 0 where
  pub usage : outcome ≡ Err Usage
  pub costs : new.costs ≡ old.costs

-- what a run does, by the command of its words and its outcome
abbrev pub Performs : Option Command → Outside → Outside → Outcome → Type 0
Performs None = RefusesWords
Performs (Some (Build base index format)) = Builds format base index
Performs (Some (Query index plan)) = Queries index
Performs (Some (Answer base plan)) = Answers base
Performs (Some (Inspect index)) = Inspects index
Performs (Some (Generate seed n t)) = Generates seed n t
Performs (Some (Migrate from to kind)) = Migrates (migrate_format kind) from to
Performs (Some (Audit index)) = Audits index
Performs (Some (Blocks index side)) = WritesBlocks index side
Performs (Some (BlockQuery index side)) = QueriesBlocks index side
Performs (Some (Remap base map to)) = Remaps base map to
Performs (Some (Segments indexes plan)) = AnswersSegments indexes
Performs (Some (Export index base)) = Exports index base
Performs (Some (IntervalQuery index)) = Queries index
Performs (Some (Merge indexes to)) = Merges indexes to
