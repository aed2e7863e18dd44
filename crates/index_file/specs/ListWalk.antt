use Rattle.std.specs.Prelude.{◌≡◌, ◌≢◌, ℕ, ◌+◌, ◌≤◌, ◌<◌, ◌^◌, List, [], ◌∷◌, length}
use Rattle.std.specs.Prelude.{Option, None, IfSome}
use Rattle.std.specs.List.{All}
use Rattle.collection_model.specs.FormatNumbers.{Plain}
use Rattle.collection_model.specs.Collection.{Posting, Collection, greatest_freq, list_of}
use Rattle.collection_model.specs.Sequences.{postings_in}
use Rattle.cursor_api.specs.NextGeq.{IsCursorList}
use Rattle.part_cost.specs.declared.formats.Format.{Format}
use Rattle.part_cost.specs.declared.formats.Format.TheVariants.{Three}
use Rattle.part_cost.specs.Formats.{numbers_of}
use Rattle.part_cost.specs.Partition.{IsPartition}
use Rattle.part_codec.specs.declared.views.PartView.{PartView}
use Rattle.two_level.specs.SequenceView.{SequenceView}
use Rattle.packed_list.specs.declared.view.ListRead.{ListRead}
use Rattle.packed_list.specs.declared.view.ListRead.TheVariants.{One, Several}
use Rattle.index_file.specs.declared.run.Run.{Run}
use Rattle.index_file.specs.Gaps.{place_in, AreHere}
use Rattle.index_file.specs.FileWords.{Spells}
use Rattle.index_file.specs.FirstBroken.{stated_terms}
use Rattle.index_file.specs.PackedAt.{starts_stated}
use Rattle.index_file.specs.DirectoryView.{IsDirectory}
use Rattle.index_file.specs.IndexView.{index_stated}

-- the lists of a collection in turn: the next that has postings, or how many lists there are
pub record ListsInTurn : Type 0 where
  pub collection : Collection
  pub next : ℕ

-- The lists from one on up to another have no postings.
abbrev pub AreEmpty : Collection → ℕ → ℕ → Type 0
AreEmpty c from to = (t : ℕ) → from ≤ t → t < to → list_of c t ≡ []

-- These are the two sequences of a list, and its greatest frequency, as a cursor over it needs
-- them; the first is cut into parts.
pub record AreOfList (docs freqs : SequenceView) (greatest : ℕ) (list : List Posting) : Type 0 where
  pub same_length : length docs.values ≡ length freqs.values
  pub cursor : IsCursorList (postings_in docs.values freqs.values)
  pub most : greatest ≡ greatest_freq (postings_in docs.values freqs.values)
  pub give : postings_in docs.values freqs.values ≡ list
  pub cut : IsPartition (length docs.values) docs.ends

-- This was read of a list: its one posting, or the two sequences of several.
abbrev pub IsReadOf : ListRead → List Posting → Type 0
IsReadOf (One doc freq) list = list ≡ record { doc = doc; freq = freq } ∷ []
IsReadOf (Several views) list = AreOfList views.docs views.freqs views.greatest list
    × (2 ≤ length list)

-- Numbers of the directory of a packed file are kept; of a plain file none are.
pub record KeepsNumbers (words : List ℕ) (format : Format) (directory : Option PartView)
    (numbers : List ℕ) (run : Run) : Type 0 where
  pub room : length numbers ≡ 16
  pub packed : IfSome directory (λ d. (format ≡ Three) × IsDirectory words d
      × AreHere (starts_stated words) numbers run)
  pub plain : directory ≡ None → (numbers_of format).kind ≡ Plain

-- The words are those of an index in a format with so many lists.
pub record HasTerms (words : List ℕ) (format : Format) (terms : ℕ) : Type 0 where
  pub spells : Spells (numbers_of format) words (index_stated words).collection
      (index_stated words).parts
  pub few_words : length words < 2 ^ 57
  pub narrow : All (λ w. w < 2 ^ 64) words
  pub terms_are : terms ≡ stated_terms words

-- List t has postings, or is behind the last.
pub record StandsAt (words : List ℕ) (terms t : ℕ) : Type 0 where
  pub within : t ≤ terms
  pub some : t < terms → list_of (index_stated words).collection t ≢ []

-- Behind the number of the list that has postings stands the next.
abbrev pub HasNext : Option PartView → ℕ → Run → Type 0
HasNext directory terms run =
    IfSome directory (λ d. place_in run < terms → run.at + 1 < run.count)
