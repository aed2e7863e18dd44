use Rattle.std.specs.Prelude.{ℕ, ◌+◌, bytes_eq, codes, find, List, [], ◌∷◌, Option, Some, None}
use Rattle.command_line.specs.declared.table.Verb.{Verb}
use Rattle.command_line.specs.declared.table.Verb.TheVariants as verbs
use Rattle.command_line.specs.declared.table.Choice.{Choice}
use Rattle.command_line.specs.declared.table.Choice.TheVariants as choices
use Rattle.command_line.specs.declared.table.Row as words

-- the words of a command: its verb, how many texts stand behind it, and which option may stand
-- behind them
pub record Row : Type 0 where
  pub name : List ℕ
  pub verb : Verb
  pub fewest : ℕ
  pub most : ℕ
  pub choice : Option Choice

-- a row, with its name as bytes
abbrev pub seen : words.Row → Row
seen row = record {
  name = row.name.now;
  verb = row.verb;
  fewest = row.fewest;
  most = row.most;
  choice = row.choice;
}

-- the most indexes of a command
abbrev pub most_segments : ℕ
most_segments = 64

-- so many texts behind a verb, and an option or none
abbrev pub texts : List ℕ → Verb → ℕ → Option Choice → Row
texts name does count may = record {
  name = name;
  verb = does;
  fewest = count;
  most = count;
  choice = may;
}

-- the words of each command
abbrev pub table : List Row
table =
    texts (codes "build") verbs.Build 2 (Some choices.Format) ∷
    texts (codes "query") verbs.Query 1 (Some choices.Plan) ∷
    texts (codes "answer") verbs.Answer 1 (Some choices.Plan) ∷
    texts (codes "inspect") verbs.Inspect 1 None ∷
    texts (codes "generate") verbs.Generate 3 None ∷
    texts (codes "migrate") verbs.Migrate 2 None ∷
    texts (codes "audit") verbs.Audit 1 None ∷
    texts (codes "blocks") verbs.Blocks 2 None ∷
    texts (codes "bquery") verbs.BlockQuery 2 None ∷
    texts (codes "remap") verbs.Remap 3 None ∷
    record (texts (codes "segments") verbs.Segments 1 (Some choices.Plan)) { most = most_segments }
    ∷
    texts (codes "pack") verbs.Pack 2 None ∷
    texts (codes "repack") verbs.Repack 2 None ∷
    texts (codes "export") verbs.Export 2 None ∷
    texts (codes "iquery") verbs.IntervalQuery 1 None ∷
    record (texts (codes "merge") verbs.Merge 2 None) { most = most_segments + 1 } ∷ []

-- the words of the command with this verb
abbrev pub row_of : List ℕ → Option Row
row_of name = find (λ row. bytes_eq row.name name) table

-- the name of an option, behind two minus signs
abbrev pub name_of : Choice → List ℕ
name_of choices.Format = codes "format"
name_of choices.Plan = codes "plan"

-- the value of an option that is not there
abbrev pub default_of : Choice → List ℕ
default_of choices.Format = codes "2"
default_of choices.Plan = codes "exhaustive"
