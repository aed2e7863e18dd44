-- The first posting whose document is at least d, by the place at which it stands.
use Rattle.std.proofs.Common.{◌≡◌, ℕ, ◌<◌, List, length, sym, ap, ◌∙◌, zero-add, arith}
use Rattle.std.specs.Prelude.{Some, option_map}
use Rattle.std.specs.List.{slice_get}
use Rattle.std.proofs.lemmas.List.{length-map}
use Rattle.std.proofs.lemmas.List.Folds.{find_at}
use Rattle.std.proofs.lemmas.Option.{slice_get-map, slice_get_within}
use Rattle.collection_model.specs.Collection.{Posting, docs_of}
use Rattle.cursor_api.specs.Laws.{FirstIsAtTheNextPlace}

pub first-is_next : FirstIsAtTheNextPlace
first-is_next list d = find_at _ list ∙ ap (slice_get list) (sym (zero-add _))

-- a place at which there is a document lies in the list
pub doc-within : (list : List Posting) (place doc : ℕ) → option_map (λ p. p.doc) (slice_get list place) ≡ Some doc → place < length list
doc-within list place doc e =
    omega (arith, slice_get_within (docs_of list) place doc (slice_get-map (λ p. p.doc) list place ∙ e), length-map list (λ p. p.doc))
