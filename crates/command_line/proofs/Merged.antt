-- The words of a merge: all but the last are the indexes, and the last is the name of a new one.
use Rattle.std.proofs.Common.{◌≡◌, refl, sym, ap, ◌∙◌, ℕ, ◌+◌, ◌<◌, List, [], ◌∷◌, length, take, get_or, arith, String, Global}
use Rattle.std.specs.Prelude.{Bool, true, false, not, Option, bytes_eq, option_map, string_bytes}
use Rattle.std.specs.Bool.{then_some}
use Rattle.std.specs.List.{list_any}
use Rattle.std.proofs.lemmas.List.{get_or-map, length-map, take-map}
use Rattle.clap.proofs.WalkLemmas.{list_any-map}
use Rattle.command_line.specs.Asked.{asked}
use Rattle.command_line.specs.Command.{Command, Merge, merged_into, texts, unless}
use Rattle.command_line.specs.declared.words.Command as words

-- the command of these indexes and this name
abbrev merge_of : List (List ℕ) → List ℕ → Option Command
merge_of indexes to = unless (list_any (λ index. bytes_eq index to) indexes) (Merge indexes to)

-- whether one of some words is a text
abbrev pub is_among : List ℕ → List (String Global) → Bool
is_among text words = list_any (λ word. bytes_eq (string_bytes word) text) words

-- a command where a test fails
pub where_not : (taken : Bool) (command : words.Command) → option_map asked (then_some (not taken) command) ≡ unless taken (asked command)
where_not true command = refl
where_not false command = refl

pub merged : (all : List (String Global)) (last : ℕ) (word : String Global) (to : List ℕ) → length all ≡ last + 1 → word ≡ get_or all last word → to ≡ string_bytes word
    → merged_into (texts all) ≡ unless (is_among to (take last all)) (Merge (texts (take last all)) to)
merged [] last word to many is so = absurd (omega (arith, many))
merged (first ∷ more) last word to many is so =
    let all : List (String Global) = first ∷ more in
    let behind : length (texts more) ≡ last = omega (arith, length-map more string_bytes, many) in
    let within : last < length all = omega (arith, many) in
    ap (λ k. merge_of (take k (texts all)) (get_or (texts all) k [])) behind
    ∙ ap (λ indexes. merge_of indexes (get_or (texts all) last [])) (take-map string_bytes last all)
    ∙ ap (merge_of (texts (take last all))) (get_or-map string_bytes all last word [] within ∙ ap string_bytes (sym is) ∙ sym so)
    ∙ ap (λ taken. unless taken (Merge (texts (take last all)) to)) (sym (list_any-map (λ index. bytes_eq index to) string_bytes (take last all)))
