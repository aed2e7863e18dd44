-- Worked by hand: three documents in the order 2, 0, 1.
use Rattle.std.proofs.Common.{◌≡◌, refl, ℕ, zero, suc, ◌<◌, List, [], ◌∷◌, get_or, arith}
use Rattle.std.specs.List.Sorted.{IsStrictlyIncreasing}
use Rattle.std.proofs.lemmas.List.Sorted.{IsPermutation-to_front}
use Rattle.collection_model.specs.Collection.{Collection}
use Rattle.collection_model.specs.Spelling.{spelled}
use Rattle.scan_plans.specs.Matches.{in_any}
use Rattle.remap.specs.NewIds.{new_id, Undoes}
use Rattle.remap.specs.Image.{IsImageList, IsImage}

abbrev ids : List ℕ
ids = 2 ∷ 0 ∷ 1 ∷ []

abbrev before : Collection
before = record { documents = 3; lists = (record { doc = 0; freq = 1 } ∷ record { doc = 2; freq = 5 } ∷ []) ∷ []; sizes = 4 ∷ 0 ∷ 7 ∷ [] }

abbrev after : Collection
after = record { documents = 3; lists = (record { doc = 1; freq = 5 } ∷ record { doc = 2; freq = 1 } ∷ []) ∷ []; sizes = 0 ∷ 7 ∷ 4 ∷ [] }

two-rise : (a b : ℕ) → a < b → IsStrictlyIncreasing (a ∷ b ∷ [])
two-rise a b lt zero within = lt
two-rise a b lt (suc k) within = absurd (omega arith)

is-image : IsImage ids before after
is-image = record {
  documents = refl;
  terms = refl;
  lists = first;
  size_each = refl;
  sizes = sizes;
}
  where
    first : (t : ℕ) → t < 1 → IsImageList ids (get_or before.lists t []) (get_or after.lists t [])
    first zero within = record { postings = IsPermutation-to_front (record { doc = 2; freq = 1 } ∷ []) (record { doc = 1; freq = 5 }); rising = two-rise 1 2 (omega arith) }
    first (suc t) within = absurd (omega arith)

    sizes : (d : ℕ) → d < 3 → get_or after.sizes (new_id ids d) 0 ≡ get_or before.sizes d 0
    sizes zero within = refl
    sizes (suc zero) within = refl
    sizes (suc (suc zero)) within = refl
    sizes (suc (suc (suc d))) within = absurd (omega arith)

docs-after : (spelled after).docs ≡ 1 ∷ 0 ∷ 0 ∷ 0 ∷ 3 ∷ 0 ∷ 0 ∷ 0 ∷ 2 ∷ 0 ∷ 0 ∷ 0 ∷ 1 ∷ 0 ∷ 0 ∷ 0 ∷ 2 ∷ 0 ∷ 0 ∷ 0 ∷ []
docs-after = refl

freqs-after : (spelled after).freqs ≡ 2 ∷ 0 ∷ 0 ∷ 0 ∷ 5 ∷ 0 ∷ 0 ∷ 0 ∷ 1 ∷ 0 ∷ 0 ∷ 0 ∷ []
freqs-after = refl

sizes-after : (spelled after).sizes ≡ 3 ∷ 0 ∷ 0 ∷ 0 ∷ 0 ∷ 0 ∷ 0 ∷ 0 ∷ 7 ∷ 0 ∷ 0 ∷ 0 ∷ 4 ∷ 0 ∷ 0 ∷ 0 ∷ []
sizes-after = refl

or-after : in_any 3 after.lists ≡ 1 ∷ 2 ∷ []
or-after = refl

undoes : Undoes ids (1 ∷ 2 ∷ 0 ∷ [])
undoes = record { count = refl; back_again = again }
  where
    again : (d : ℕ) → d < 3 → new_id (1 ∷ 2 ∷ 0 ∷ []) (new_id ids d) ≡ d
    again zero within = refl
    again (suc zero) within = refl
    again (suc (suc zero)) within = refl
    again (suc (suc (suc d))) within = absurd (omega arith)
