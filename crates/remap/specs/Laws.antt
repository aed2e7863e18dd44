use Rattle.std.specs.Prelude.{◌≡◌, ℕ, ◌<◌, List, length}
use Rattle.std.specs.List.{All}
use Rattle.std.specs.List.Sorted.{IsStrictlyIncreasing}
use Rattle.collection_model.specs.FormatNumbers.{FormatNumbers}
use Rattle.collection_model.specs.Collection.{Posting, Collection, WellFormed, docs_of}
use Rattle.scan_plans.specs.Matches.{AreBelow, in_all, in_any, score}
use Rattle.remap.specs.NewIds.{AreNewIds, new_id, Undoes}
use Rattle.remap.specs.Image.{IsImage, AreImageDocs, AreImageLists}

-- An order over the documents of a collection that is well formed in a format.
pub record Orders (format : FormatNumbers) (ids : List ℕ) (c : Collection) : Type 0 where
  pub well_formed : WellFormed format c
  pub new_ids : AreNewIds ids
  pub each : length ids ≡ c.documents

-- The documents of each list rise.
abbrev pub AreRising : List (List Posting) → Type 0
AreRising lists = All (λ list. IsStrictlyIncreasing (docs_of list)) lists

-- The image is well formed.
abbrev pub ImageIsWellFormed : Type 0
ImageIsWellFormed = (format : FormatNumbers) (ids : List ℕ) (c image : Collection)
    → Orders format ids c → IsImage ids c image → WellFormed format image

-- There is one image only.
abbrev pub OneImage : Type 0
OneImage = (format : FormatNumbers) (ids : List ℕ) (c a b : Collection) → Orders format ids c
    → IsImage ids c a → IsImage ids c b → a ≡ b

-- The order that undoes another gives of its image the collection back.
abbrev pub UndoneImage : Type 0
UndoneImage = (format : FormatNumbers) (ids back : List ℕ) (c image : Collection)
    → Orders format ids c → Undoes ids back → IsImage ids c image → IsImage back image c

-- What is in all images of some lists, and what is in any of them, are the images of what is in all
-- of them, and in any.
abbrev pub MatchesAreImages : Type 0
MatchesAreImages =
    (ids : List ℕ) (lists images : List (List Posting)) → AreNewIds ids
    → AreBelow (length ids) lists → AreImageLists ids lists images
    → AreImageDocs ids (in_all (length ids) lists) (in_all (length ids) images)
    × AreImageDocs ids (in_any (length ids) lists) (in_any (length ids) images)

-- A new id has in the images the score of its document.
abbrev pub ScoresStay : Type 0
ScoresStay =
    (ids weights : List ℕ) (lists images : List (List Posting)) (d : ℕ) → AreNewIds ids
    → AreBelow (length ids) lists → AreRising lists → AreImageLists ids lists images
    → d < length ids → score images weights (new_id ids d) ≡ score lists weights d
