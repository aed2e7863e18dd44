-- The index of one list.
use Rattle.std.specs.Prelude.{◌≡◌, ℕ, ◌<◌, List, [], ◌∷◌, length}
use Rattle.collection_model.specs.FormatNumbers.{format_two}
use Rattle.collection_model.specs.Collection.{Posting, Collection}
use Rattle.index_file.specs.FileWords.{ListParts, file_words}
use Rattle.index_file.specs.Builder.{most_words}

-- the collection of one list, with a document for each size
abbrev pub one_list : List Posting → List ℕ → Collection
one_list list sizes = record { documents = length sizes; lists = list ∷ []; sizes = sizes }

-- So many words would be those of its index in some parts, in the second format, and they are too
-- many.
pub record WouldBeTooMany (list : List Posting) (sizes : List ℕ) (n : ℕ) : Type 0 where
  pub too_many : most_words < n
  pub parts : ListParts
  pub count : n ≡ length (file_words format_two (one_list list sizes) (parts ∷ []))
