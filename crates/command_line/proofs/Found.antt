-- The rows of the table, and the words as texts.
use Rattle.std.proofs.Common.{◌≡◌, refl, ℕ, List, [], ◌∷◌, true, arith, ◌≤◌, ◌<◌, length, drop}
use Rattle.std.specs.Prelude.{Bool, nat_le, bytes_eq, find, Some, String, string_bytes, true, None}
use Rattle.std.proofs.lemmas.List.{length-map, length-take-le, take-map}
use Rattle.std.proofs.lemmas.List.Folds.{length-prefix_len}
use Rattle.std.proofs.lemmas.List.Sums.{prefix_len-le-length}
use Rattle.clap.proofs.WalkLemmas.{first_value-rows, raw_values-rows}
use Rattle.std.specs.List.{list_all, prefix_len}
use Rattle.std.specs.declared.alloc.Global.{Global}
use Rattle.command_line.specs.Command.{is_text, texts, texts_before, command_of}
use Rattle.command_line.specs.Table.{Row, row_of, table}
use Rattle.std.proofs.Math.ListN.{get_or}

-- what all pass, what is found passes
passes : {X : Type 0} (test find_by : X → Bool) (xs : List X) (x : X) → list_all test xs ≡ true → find find_by xs ≡ Some x → test x ≡ true
passes test find_by [] x all h = cc
passes test find_by (y ∷ ys) x all h = grind (arith, passes test find_by ys x)

-- each row of the table has a text
pub has_texts : (verb : List ℕ) (row : Row) → row_of verb ≡ Some row → nat_le 1 row.fewest ≡ true
has_texts verb row is = passes (λ (row : Row). nat_le 1 row.fewest) (λ (row : Row). bytes_eq row.name verb) table row refl is

-- how many words are texts, as their bytes
pub counted_texts : (words : List (String Global)) → prefix_len (λ word. is_text (string_bytes word)) words ≡ texts_before (texts words)
counted_texts [] = refl
counted_texts (word ∷ words) = grind (arith, counted_texts words)

-- what is known of the texts among the matches
pub ruleset matched = (raw_values-rows, first_value-rows, length-map, length-prefix_len, length-take-le, prefix_len-le-length, take-map)

-- a name, a verb, and what is behind them
pub named : (words : List (String Global)) (a b : String Global) (v : List ℕ) → 2 ≤ length words
    → a ≡ get_or words 0 a → b ≡ get_or words 1 b → v ≡ string_bytes b → texts words ≡ string_bytes a ∷ v ∷ texts (drop 2 words)
named words a b v lo ea eb ev = grind arith

-- fewer words are no command
pub no_verb : (words : List (String Global)) → length words < 2 → command_of (texts words) ≡ None
no_verb [] few = refl
no_verb (name ∷ []) few = refl
no_verb (name ∷ verb ∷ words) few = absurd (omega (arith, few))
