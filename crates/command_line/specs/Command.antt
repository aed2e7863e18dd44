use Rattle.std.specs.Prelude.{ℕ, nat_le, Bool, false, not, ◌&&◌, ◌||◌, ◌==◌, ◌++◌, bytes_eq, codes, if◌then◌else◌, List, [], ◌∷◌, length, get_or, map, take, drop, Option, Some, None, option_and_then, option_map, String, string_bytes}
use Rattle.std.specs.List.{list_any, prefix_len}
use Rattle.std.specs.declared.alloc.Global.{Global}
use Rattle.part_cost.specs.declared.formats.Format.{Format}
use Rattle.part_cost.specs.declared.formats.Format.TheVariants.{One, Two, Three}
use Rattle.query_text.specs.Numbers.{number_of}
use Rattle.topk_pruning.specs.declared.plan.Plan.{Plan}
use Rattle.topk_pruning.specs.declared.plan.Plan.TheVariants.{Exhaustive, Wand, MaxScore}
use Rattle.command_line.specs.Table.{Row, row_of, name_of, default_of}
use Rattle.command_line.specs.declared.table.Choice.{Choice}
use Rattle.command_line.specs.declared.table.Verb.{Verb}
use Rattle.command_line.specs.declared.table.Verb.TheVariants as verbs
use Rattle.command_line.specs.declared.words.FileKind.{FileKind}
use Rattle.command_line.specs.declared.words.FileKind.TheVariants.{Plain, Packed}

-- what the words of the command line ask for
pub data Command : Type 0 where
  Build : (base index : List ℕ) (format : Format) → Command
  Query : (index : List ℕ) (plan : Plan) → Command
  Answer : (base : List ℕ) (plan : Plan) → Command
  Inspect : (index : List ℕ) → Command
  Generate : (seed n t : ℕ) → Command
  Migrate : (from to : List ℕ) (kind : FileKind) → Command
  Audit : (index : List ℕ) → Command
  Blocks : (index side : List ℕ) → Command
  BlockQuery : (index side : List ℕ) → Command
  Remap : (base map to : List ℕ) → Command
  Segments : (indexes : List (List ℕ)) (plan : Plan) → Command
  Export : (index base : List ℕ) → Command
  IntervalQuery : (index : List ℕ) → Command
  Merge : (indexes : List (List ℕ)) (to : List ℕ) → Command

-- words as their bytes
abbrev pub texts : List (String Global) → List (List ℕ)
texts words = map string_bytes words

-- whether a word begins with a minus sign
abbrev pub begins_with_minus : List ℕ → Bool
begins_with_minus [] = false
begins_with_minus (b ∷ bs) = b == 45

-- whether a word can be a text of a command: it is not empty, is not `help`, and begins with no
-- minus sign
abbrev pub is_text : List ℕ → Bool
is_text word = not (bytes_eq word []) && not (bytes_eq word (codes "help"))
    && not (begins_with_minus word)

-- whether an index under this name would take the place of a file of the collection
abbrev pub is_file_of : List ℕ → List ℕ → Bool
is_file_of base name =
    bytes_eq name (base ++ codes ".docs") || bytes_eq name (base ++ codes ".freqs")
    || bytes_eq name (base ++ codes ".sizes")

-- the format of this name
abbrev pub format_of : List ℕ → Option Format
format_of name = if bytes_eq name (codes "1") then Some One else if bytes_eq name (codes "2")
    then Some Two else None

-- the plan of this name
abbrev pub plan_of : List ℕ → Option Plan
plan_of name =
    if bytes_eq name (codes "exhaustive") then Some Exhaustive
    else if bytes_eq name (codes "wand") then Some Wand
    else if bytes_eq name (codes "maxscore") then Some MaxScore
    else None

-- whether a name is that of a map, or of a file of a collection
abbrev pub is_input_of : List ℕ → List ℕ → List ℕ → Bool
is_input_of base map name = bytes_eq map name || is_file_of base name

-- whether a collection under a new base would take the place of the map, or of a file of the
-- collection
abbrev pub takes_place : List ℕ → List ℕ → List ℕ → Bool
takes_place base map to =
    is_input_of base map (to ++ codes ".docs") || is_input_of base map (to ++ codes ".freqs")
    || is_input_of base map (to ++ codes ".sizes")

-- one text, two or three, where there are so many
abbrev pub one_of : List (List ℕ) → Option (List ℕ)
one_of (text ∷ []) = Some text
one_of words = None

abbrev pub two_of : List (List ℕ) → Option (List ℕ × List ℕ)
two_of (first ∷ second ∷ []) = Some (first, second)
two_of words = None

abbrev pub three_of : List (List ℕ) → Option (List ℕ × List ℕ × List ℕ)
three_of (first ∷ second ∷ third ∷ []) = Some (first, second, third)
three_of words = None

-- a command, unless one name would take the place of another
abbrev pub unless : Bool → Command → Option Command
unless taken command = if taken then None else Some command

-- a base and an index that is none of its files, in a format
abbrev pub built_in : List (List ℕ) → Format → Option Command
built_in texts format =
    option_and_then (λ names. unless (is_file_of names.0 names.1) (Build names.0 names.1 format))
    (two_of texts)

-- an index and another name, for a new one of a kind
abbrev pub migrated_to : FileKind → List (List ℕ) → Option Command
migrated_to kind texts =
    option_and_then (λ names. unless (bytes_eq names.0 names.1) (Migrate names.0 names.1 kind))
    (two_of texts)

-- indexes, and behind them the name of a new one, which is none of theirs
abbrev pub merged_into : List (List ℕ) → Option Command
merged_into [] = None
merged_into (text ∷ texts) =
    let indexes = take (length texts) (text ∷ texts) in
    let to = get_or (text ∷ texts) (length texts) [] in
    unless (list_any (λ index. bytes_eq index to) indexes) (Merge indexes to)

-- a seed, a number of documents and a number of lists, where each is a number
abbrev pub generated_by : Option ℕ → Option ℕ → Option ℕ → Option Command
generated_by (Some seed) (Some n) (Some t) = Some (Generate seed n t)
generated_by seed n t = None

-- the command of a verb, of the texts behind it and of the value of its option; none where they do
-- not go together
abbrev pub command_with : Verb → List (List ℕ) → List ℕ → Option Command
command_with verbs.Build texts value = option_and_then (built_in texts) (format_of value)
command_with verbs.Query texts value =
    option_and_then (λ index. option_map (Query index) (plan_of value)) (one_of texts)
command_with verbs.Answer texts value =
    option_and_then (λ base. option_map (Answer base) (plan_of value)) (one_of texts)
command_with verbs.Inspect texts value = option_map Inspect (one_of texts)
command_with verbs.Generate texts value =
    option_and_then (λ three. generated_by (number_of three.0) (number_of three.1)
    (number_of three.2)) (three_of texts)
command_with verbs.Migrate texts value = migrated_to Plain texts
command_with verbs.Audit texts value = option_map Audit (one_of texts)
command_with verbs.Blocks texts value =
    option_and_then (λ names. unless (bytes_eq names.0 names.1) (Blocks names.0 names.1))
    (two_of texts)
command_with verbs.BlockQuery texts value =
    option_map (λ names. BlockQuery names.0 names.1) (two_of texts)
command_with verbs.Remap texts value =
    option_and_then (λ names. unless (takes_place names.0 names.1 names.2)
    (Remap names.0 names.1 names.2)) (three_of texts)
command_with verbs.Segments texts value = option_map (Segments texts) (plan_of value)
command_with verbs.Pack texts value = built_in texts Three
command_with verbs.Repack texts value = migrated_to Packed texts
command_with verbs.Export texts value =
    option_and_then (λ names. unless (is_file_of names.1 names.0) (Export names.0 names.1))
    (two_of texts)
command_with verbs.IntervalQuery texts value = option_map IntervalQuery (one_of texts)
command_with verbs.Merge texts value = merged_into texts

-- how many words stand before the first that can be no text of a command
abbrev pub texts_before : List (List ℕ) → ℕ
texts_before words = prefix_len is_text words

-- the value of an option where words are the option with a text, or nothing
abbrev pub chosen_in : Choice → List (List ℕ) → Option (List ℕ)
chosen_in choice [] = Some (default_of choice)
chosen_in choice (option ∷ value ∷ []) =
    if bytes_eq option (codes "--" ++ name_of choice) && is_text value then Some value else None
chosen_in choice words = None

-- the same where there may be no option; then there are no words
abbrev pub value_in : Option Choice → List (List ℕ) → Option (List ℕ)
value_in (Some choice) words = chosen_in choice words
value_in None [] = Some []
value_in None words = None

-- the command of a row, with as many texts as it may have, and then its option or nothing
abbrev pub by_row : Row → List (List ℕ) → Option Command
by_row row words =
    if nat_le row.fewest (texts_before words) && nat_le (texts_before words) row.most
    then option_and_then (command_with row.verb (take (texts_before words) words))
    (value_in row.choice (drop (texts_before words) words))
    else None

-- the command of the words, the program's name first; none where they are refused as usage
abbrev pub command_of : List (List ℕ) → Option Command
command_of [] = None
command_of (name ∷ []) = None
command_of (name ∷ verb ∷ words) = option_and_then (λ row. by_row row words) (row_of verb)
