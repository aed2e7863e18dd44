-- The index of one list.
use Rattle.std.proofs.Common.{◌≡◌, refl, sym, ◌∙◌, ap, subst, ℕ, ◌+◌, ◌*◌, ◌<◌, ◌≤◌, ◌^◌, List, [], ◌∷◌, length, arith}
use Rattle.std.specs.Prelude.{Result, Ok, Err, IfOk, Vec}
use Rattle.std.specs.List.{All}
use Rattle.std.specs.declared.alloc.Global.{Global}
use Rattle.collection_model.specs.FormatNumbers.{Plain, format_two}
use Rattle.collection_model.specs.Collection.{Posting}
use Rattle.part_cost.specs.declared.formats.Format.{Format}
use Rattle.part_cost.specs.declared.formats.Format.TheVariants.{Two}
use Rattle.part_cost.specs.Formats.{numbers_of}
use Rattle.cost_windows.specs.WindowBounds.{window_bounds}
use Rattle.index_file.specs.declared.builder.FinishError.{FinishError}
use Rattle.index_file.specs.FileWords.{CutList, ListParts, words_of_file, Spells}
use Rattle.index_file.specs.Builder.{Built, StandsFor, AddsList, most_words}
use Rattle.index_file.specs.Laws.{FilesSpellCollections}
use Rattle.calling.specs.OneList.{one_list, WouldBeTooMany}

module _ (list : List Posting) (sizes : List ℕ) where
  spelled : (format : Format) (n : ℕ) (words : List ℕ) (parts : ListParts) → format ≡ Two → n ≡ length sizes
      → Spells (numbers_of format) words (record { documents = n; lists = list ∷ []; sizes = sizes }) (parts ∷ []) → Spells format_two words (one_list list sizes) (parts ∷ [])
  spelled format n words parts is documents spells =
      subst (λ f. Spells (numbers_of f) words (one_list list sizes) (parts ∷ [])) is
      (subst (λ k. Spells (numbers_of format) words (record { documents = k; lists = list ∷ []; sizes = sizes }) (parts ∷ [])) documents spells)

  pub built-list : FilesSpellCollections → (old new : Built) (before after : ℕ) (r : Result (Vec ℕ Global) FinishError)
      → old.format ≡ Two → old.documents ≡ length sizes → length sizes < 2 ^ 32 → All (λ s. s < 2 ^ 32) sizes → StandsFor old [] → AddsList old new list before after
      → ((cs : List CutList) → StandsFor new cs → IfOk r (λ words. words.items ≡ words_of_file (numbers_of new.format) new.documents cs sizes))
      → IfOk r (λ words. (parts : ListParts) × Spells format_two words.items (one_list list sizes) (parts ∷ []))
  built-list files old new before after (Err e) format documents few fit none adds words = tt
  built-list files old new before after (Ok made) format documents few fit none (same, so, added) words =
      let it = added [] none in
      let cs : List CutList = record { list = list; parts = it.0 } ∷ [] in
      let is : new.format ≡ Two = same ∙ format in
      let count : new.documents ≡ length sizes = so ∙ documents in
      let within : new.documents ≤ (numbers_of new.format).most_documents =
      subst (λ f. new.documents ≤ (numbers_of f).most_documents) (sym is) (omega (arith, count, few)) in
      let plain : (numbers_of new.format).kind ≡ Plain = subst (λ f. (numbers_of f).kind ≡ Plain) (sym is) refl in
      let file = files.spelled new cs sizes it.1 (files.plain_fits (numbers_of new.format).kind new.documents cs plain) within (omega arith) (sym count) fit in (
        it.0,
        subst (λ ws. Spells format_two ws (one_list list sizes) (it.0 ∷ [])) (sym (words cs it.1)) (spelled new.format new.documents _ it.0 is count file),
      )

  -- the words are too many
  pub built-too_many : FilesSpellCollections → (old new : Built) (before after n : ℕ)
      → old.format ≡ Two → old.documents ≡ length sizes → StandsFor old [] → AddsList old new list before after
      → most_words < n
      → ((cs : List CutList) → StandsFor new cs → n ≡ length (words_of_file (numbers_of new.format) new.documents cs sizes))
      → WouldBeTooMany list sizes n
  built-too_many files old new before after n format documents none (same, so, added) many would_be =
      let it = added [] none in
      let cs : List CutList = record { list = list; parts = it.0 } ∷ [] in
      let P : Format → ℕ → Type 0 = λ f k. n ≡ length (words_of_file (numbers_of f) k cs sizes) in
      let in_format = subst (λ f. P f new.documents) (same ∙ format) (would_be cs it.1) in
      let count = subst (P Two) (so ∙ documents) in_format in
      record { too_many = many; parts = it.0; count = count ∙ ap length (files.words format_two (length sizes) cs sizes) }

-- costs are counted by the windows of the second format
pub counted : (format : Format) (m before after : ℕ) → format ≡ Two → after ≤ before + 6 * length (window_bounds format) * (m + 1)
    → after ≤ before + 6 * length (window_bounds Two) * (m + 1)
counted format m before after is h = subst (λ f. after ≤ before + 6 * length (window_bounds f) * (m + 1)) is h
