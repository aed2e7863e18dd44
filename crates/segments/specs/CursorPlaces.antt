-- Lemmas on the place of a joined cursor.
use Rattle.std.proofs.Common.{◌≡◌, sym, ap, ◌∙◌, ℕ, ◌+◌, ◌<◌, ◌≤◌, inl, inr, List, length, get_or, arith}
use Rattle.std.proofs.lemmas.List.{length-map, get_or_past, take_all}
use Rattle.std.proofs.lemmas.List.Folds.{length-flat_map-take}
use Rattle.std.proofs.lemmas.Bool.{cases_lt}
use Rattle.collection_model.specs.Collection.{Posting}
use Rattle.cursor_api.specs.NextGeq.{IsCursorList, IsCursorAt}
use Rattle.segments.specs.Joined.{ListPart, shifted, joined_list}
use Rattle.segments.specs.JoinedCursor.{no_part, part_of, parts_of, places_of, start_of, joined_place, StandsAt}

-- as many postings after a shift
pub shifted-length : (first : ℕ) (list : List Posting) → length (shifted first list) ≡ length list
shifted-length first list = length-map {B = Posting} list (λ (p : Posting). record {
  doc = first + p.doc;
  freq = p.freq;
})

-- a part ends within the joined list
pub part-within : (parts : List ListPart) (at : ℕ) → at < length parts
    → start_of parts at + length (get_or parts at no_part).list ≤ length (joined_list parts)
part-within parts at within =
    let p : ListPart = get_or parts at no_part in
    omega (arith, length-flat_map-take (λ (q : ListPart). shifted q.first q.list) parts at no_part within, shifted-length p.first p.list)

-- behind the last part all postings were passed
pub start-past : (parts : List ListPart) (at : ℕ) → length parts ≤ at
    → start_of parts at ≡ length (joined_list parts)
start-past parts at past = ap (λ ps. length (joined_list ps)) (take_all at parts past)

-- the place is one of the joined list, or its end
pub place-within : (parts : List ListPart) (places : List ℕ) (at : ℕ) → length places ≡ length parts
    → StandsAt parts places at → joined_place parts places at ≤ length (joined_list parts)
place-within parts places at each stands = elim (cases_lt at (length parts)) [
  | inl within ↦ (let here = stands.reading within in omega (arith, here, part-within parts at within))
  | inr past ↦ omega (arith, start-past parts at past, get_or_past places at 0 (omega arith))
]

-- each part has a place
pub as-many : {A : Type 0} (list : A → List Posting) (place : A → ℕ) (cursors : List (ℕ × A))
    → length (places_of place cursors) ≡ length (parts_of list cursors)
as-many list place cursors = length-map cursors (λ c. place c.1) ∙ sym (length-map cursors (λ c. part_of c.0 (list c.1)))

-- a joined cursor stands at a place of its list or at its end
pub joined-cursor : {A : Type 0} (list : A → List Posting)
    (place : A → ℕ) (cursors : List (ℕ × A)) (at : ℕ)
    → IsCursorList (joined_list (parts_of list cursors))
    → StandsAt (parts_of list cursors) (places_of place cursors) at
    → IsCursorAt (joined_list (parts_of list cursors))
    (joined_place (parts_of list cursors) (places_of place cursors) at)
joined-cursor list place cursors at listed stands = record {
  well_formed = listed;
  within = place-within (parts_of list cursors) (places_of place cursors) at
      (as-many list place cursors) stands;
}
