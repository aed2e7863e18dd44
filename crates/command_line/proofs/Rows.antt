-- Which lines are which command.
use Rattle.std.proofs.Common.{◌≡◌, refl, ℕ, List, [], ◌∷◌}
use Rattle.std.specs.Prelude.{◌==◌, codes, if◌then◌else◌, map, Option, Some, None}
use Rattle.part_cost.specs.declared.formats.Format.TheVariants.{One, Two, Three}
use Rattle.topk_pruning.specs.declared.plan.Plan.TheVariants.{Exhaustive, Wand, MaxScore}
use Rattle.command_line.specs.declared.words.FileKind.TheVariants.{Plain, Packed}
use Rattle.command_line.specs.Command.{Command, command_of, Build, Query, Answer, Inspect, Generate, Migrate, Audit, Blocks, BlockQuery, Remap, Segments, Export, IntervalQuery, Merge}

abbrev with_byte : ℕ → List (List ℕ) → List (List ℕ)
with_byte b [] = (b ∷ []) ∷ []
with_byte b (word ∷ words) = (b ∷ word) ∷ words

-- the words of a line, with a space between two
abbrev words_of : List ℕ → List (List ℕ)
words_of [] = [] ∷ []
words_of (b ∷ bs) = if b == 32 then [] ∷ words_of bs else with_byte b (words_of bs)

-- lines, and what they ask for
abbrev rows : List (List ℕ × Option Command)
rows =
    (codes "pefidx answer x", Some (Answer (codes "x") Exhaustive)) ∷
    (codes "pefidx query x", Some (Query (codes "x") Exhaustive)) ∷
    (codes "pefidx inspect x", Some (Inspect (codes "x"))) ∷
    (codes "pefidx answer x --plan wand", Some (Answer (codes "x") Wand)) ∷
    (codes "pefidx query x --plan maxscore", Some (Query (codes "x") MaxScore)) ∷
    (codes "pefidx query x --plan exhaustive", Some (Query (codes "x") Exhaustive)) ∷
    (codes "pefidx generate 1 3 2", Some (Generate 1 3 2)) ∷
    (codes "pefidx generate 0001 03 2", Some (Generate 1 3 2)) ∷
    (codes "pefidx generate 1 4294967295 1", Some (Generate 1 4294967295 1)) ∷
    (codes "pefidx audit x", Some (Audit (codes "x"))) ∷
    (codes "pefidx migrate x y", Some (Migrate (codes "x") (codes "y") Plain)) ∷
    (codes "pefidx blocks x y", Some (Blocks (codes "x") (codes "y"))) ∷
    (codes "pefidx bquery x y", Some (BlockQuery (codes "x") (codes "y"))) ∷
    (codes "pefidx bquery x x", Some (BlockQuery (codes "x") (codes "x"))) ∷
    (codes "pefidx remap x m y", Some (Remap (codes "x") (codes "m") (codes "y"))) ∷
    (codes "pefidx remap x x.sizes y", Some (Remap (codes "x") (codes "x.sizes") (codes "y"))) ∷
    (codes "pefidx build x y", Some (Build (codes "x") (codes "y") Two)) ∷
    (codes "pefidx build x y --format 1", Some (Build (codes "x") (codes "y") One)) ∷
    (codes "pefidx build x y.docs", Some (Build (codes "x") (codes "y.docs") Two)) ∷
    (codes "pefidx segments a", Some (Segments (codes "a" ∷ []) Exhaustive)) ∷
    (codes "pefidx segments a b --plan wand", Some (Segments (codes "a" ∷ codes "b" ∷ []) Wand)) ∷
    (codes "pefidx pack x y", Some (Build (codes "x") (codes "y") Three)) ∷
    (codes "pefidx pack x x", Some (Build (codes "x") (codes "x") Three)) ∷
    (codes "pefidx repack x y", Some (Migrate (codes "x") (codes "y") Packed)) ∷
    (codes "pefidx export x y", Some (Export (codes "x") (codes "y"))) ∷
    (codes "pefidx export x x", Some (Export (codes "x") (codes "x"))) ∷
    (codes "pefidx export x x.docs", Some (Export (codes "x") (codes "x.docs"))) ∷
    (codes "pefidx iquery x", Some (IntervalQuery (codes "x"))) ∷
    (codes "pefidx merge x y", Some (Merge (codes "x" ∷ []) (codes "y"))) ∷
    (codes "pefidx merge x x y", Some (Merge (codes "x" ∷ codes "x" ∷ []) (codes "y"))) ∷
    []

asked : map (λ (row : List ℕ × Option Command). command_of (words_of row.0)) rows ≡ map (λ (row : List ℕ × Option Command). row.1) rows
asked = refl

-- lines that ask for nothing
abbrev others : List (List ℕ)
others =
    codes "pefidx" ∷ codes "pefidx inspect" ∷ codes "pefidx inspect help" ∷ codes "pefidx query a b" ∷ codes "pefidx query -" ∷ codes "pefidx answer help" ∷ codes "pefidx answer " ∷
    codes "pefidx answer x --plan fast" ∷ codes "pefidx answer x --plan" ∷ codes "pefidx answer x --plan wand --plan wand" ∷ codes "pefidx query --plan wand x" ∷
    codes "pefidx inspect x --plan wand" ∷ codes "pefidx generate 1 4294967296 1" ∷ codes "pefidx generate x 1 1" ∷ codes "pefidx generate +1 1 1" ∷ codes "pefidx generate 1 2" ∷
    codes "pefidx audit x y" ∷ codes "pefidx migrate x x" ∷ codes "pefidx migrate x" ∷ codes "pefidx migrate x y --format 2" ∷ codes "pefidx blocks x x" ∷ codes "pefidx bquery x" ∷
    codes "pefidx bquery x y --plan wand" ∷ codes "pefidx remap x m x" ∷ codes "pefidx remap x y.sizes y" ∷ codes "pefidx remap x m" ∷ codes "pefidx build x" ∷
    codes "pefidx build x y --format 3" ∷ codes "pefidx build x y --format" ∷ codes "pefidx build x y --format 1 --format 1" ∷ codes "pefidx build --format 1 x y" ∷
    codes "pefidx build x x.docs" ∷ codes "pefidx build x x.sizes --format 1" ∷ codes "pefidx segments --plan wand" ∷ codes "pefidx segments" ∷ codes "pefidx pack x x.docs" ∷
    codes "pefidx pack x" ∷ codes "pefidx pack x y --format 2" ∷ codes "pefidx repack x x" ∷ codes "pefidx repack x" ∷ codes "pefidx repack x y z" ∷ codes "pefidx export x.docs x" ∷
    codes "pefidx export x.freqs x" ∷ codes "pefidx export x.sizes x" ∷ codes "pefidx export x" ∷ codes "pefidx iquery" ∷ codes "pefidx iquery x y" ∷ codes "pefidx iquery x --plan wand" ∷ codes "pefidx merge" ∷ codes "pefidx merge x" ∷ codes "pefidx merge x x" ∷ codes "pefidx merge x y x" ∷
    codes "pefidx merge x y --plan wand" ∷ []

refused : map (λ line. command_of (words_of line)) others ≡ map (λ line. None) others
refused = refl
