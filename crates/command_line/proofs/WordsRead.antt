-- `clap` reads the words of each command of a row as they ask for it.
use Rattle.std.proofs.Common.{◌≡◌, refl, sym, subst, arith}
use Rattle.std.specs.Prelude.{◌&&◌, length, suc, Bool, true, List, [], ◌∷◌, ◌++◌, codes, bytes_eq, is_some, if◌then◌else◌, Option, Some, None, take, drop, ◌+◌, ◌≤◌}
use Rattle.std.specs.Cmp.Lexicographic.{same_text}
use Rattle.std.proofs.lemmas.List.{take-append-drop}
use Rattle.std.proofs.lemmas.List.Folds.{length-prefix_len}
use Rattle.std.proofs.lemmas.List.Sums.{prefix_len-le-length}
use Rattle.clap.specs.Lexer.{usize_max}
use Rattle.clap.specs.Walk.{Text}
use Rattle.clap.specs.Words.{matches_of, takes}
use Rattle.command_line.specs.declared.table.Choice.{Choice}
use Rattle.command_line.specs.Table.{Row, name_of, default_of}
use Rattle.command_line.specs.Command.{by_row, is_text, texts_before, value_in}
use Rattle.command_line.specs.Private.CommandLine.{IsRead, app_with}
use Rattle.command_line.proofs.PlainWalk.{IsPlain}
use Rattle.command_line.proofs.Level.{ArePlain, Reads, said, unsaid}

plain : (word : Text) → is_text word ≡ true → IsPlain word
plain word h = grind arith

-- the words before the first that is no text are texts
all_plain : (words : List Text) → ArePlain (take (texts_before words) words)
all_plain [] = tt
all_plain (word ∷ words) = let next : suc (texts_before words) ≡ 1 + texts_before words = omega arith in grind (arith, all_plain words, plain word)

abbrev ReadsBy : Option Choice → List Text → List Text → Type 0
ReadsBy choice texts rest = (value : Text) × (value_in choice rest ≡ Some value) × Reads choice texts (texts ++ rest) value

-- texts, and then an option or nothing
reads_to : (choice : Option Choice) (texts rest : List Text) → ArePlain texts → 1 ≤ length texts → length texts ≤ usize_max → is_some (value_in choice rest) ≡ true → ReadsBy choice texts rest
reads_to choice [] rest plains some few h = absurd (omega arith)
reads_to choice (first ∷ more) rest plains some few h = go choice rest h
  where
    chosen : (choice : Choice) (option value : Text) (a b : Bool) → bytes_eq option (codes "--" ++ name_of choice) ≡ a → is_text value ≡ b → is_some (if a && b then Some value else None) ≡ true → ReadsBy (Some choice) (first ∷ more) (option ∷ value ∷ [])
    chosen choice option value true true is text h = (
      value,
      grind arith,
      subst (λ o. Reads (Some choice) (first ∷ more) (first ∷ (more ++ o ∷ value ∷ [])) value) (sym (same_text option (codes "--" ++ name_of choice) (sym is)))
          (said first more plains.0 plains.1 few choice value (plain value text)),
    )
    chosen choice option value a b is text h = grind arith

    go : (choice : Option Choice) (rest : List Text) → is_some (value_in choice rest) ≡ true → ReadsBy choice (first ∷ more) rest
    go None [] h = ([], refl, unsaid first more plains.0 plains.1 few None)
    go (Some choice) [] h = (default_of choice, refl, unsaid first more plains.0 plains.1 few (Some choice))
    go (Some choice) (option ∷ value ∷ []) h = chosen choice option value (bytes_eq option (codes "--" ++ name_of choice)) (is_text value) refl refl h
    go choice rest h = cc

module _ (row : Row) (words : List Text) (some : 1 ≤ row.fewest) (few : length words ≤ usize_max) where
  abbrev WordsRead : Type 0
  WordsRead = (takes (app_with row.choice) words ≡ true) × IsRead row words (matches_of (app_with row.choice) words)

  fits : is_some (by_row row words) ≡ true → (row.fewest ≤ texts_before words) × (is_some (value_in row.choice (drop (texts_before words) words)) ≡ true)
  fits h = grind arith

  pub row_read : is_some (by_row row words) ≡ true → WordsRead
  row_read h =
      let size : length (take (texts_before words) words) ≡ texts_before words = length-prefix_len is_text words in
      let is = fits h in
      let read = reads_to row.choice (take (texts_before words) words) (drop (texts_before words) words) (all_plain words)
      (omega (arith, size, is.0)) (omega (arith, size, prefix_len-le-length is_text words)) is.1 in
      let at = subst (λ ws. Reads row.choice (take (texts_before words) words) ws read.0) (take-append-drop (texts_before words) words) read.2 in
      (at.passes, record { texts_are = at.texts_are; asks = grind (arith, h, at.said_is, read.1) })
