-- The sum of the frequencies that were walked.
use Rattle.std.proofs.Common.{◌≡◌, refl, sym, ◌∙◌, ap, subst, ℕ, ◌+◌, ◌<◌, ◌≤◌, List, length, take, get_or, map, sum_by, arith, inl, inr}
use Rattle.std.specs.Prelude.{Option, Some, None, option_map}
use Rattle.std.specs.List.{slice_get}
use Rattle.std.proofs.lemmas.List.{length-map, take_all, get_or-map}
use Rattle.std.proofs.lemmas.List.Sums.{sum_by_more, sum_by_more_le}
use Rattle.std.proofs.lemmas.Option.{slice_get-map, slice_get_within, slice_get_cases, get_or_from_slice_get, none-some}
use Rattle.collection_model.specs.Collection.{Posting, docs_of, freqs_of}

no_posting : Posting
no_posting = record { doc = 0; freq = 0 }

-- where a document stands there is a posting
pub stands_within : (list : List Posting) (place doc : ℕ) → option_map (λ p. p.doc) (slice_get list place) ≡ Some doc → place < length list
stands_within list place doc e =
    omega (arith, slice_get_within (docs_of list) place doc (slice_get-map (λ p. p.doc) list place ∙ e), length-map list (λ p. p.doc))

freq_at : (list : List Posting) (place freq : ℕ) → place < length list → slice_get (freqs_of list) place ≡ Some freq → (get_or list place no_posting).freq ≡ freq
freq_at list place freq within at =
    sym (get_or-map (λ p. p.freq) list place no_posting 0 within) ∙ get_or_from_slice_get (freqs_of list) place freq 0 at

-- and its frequency is added
pub walked-more : (list : List Posting) (place freq total : ℕ) → place < length list → slice_get (freqs_of list) place ≡ Some freq
    → total ≡ sum_by (λ p. p.freq) (take place list) → total + freq ≡ sum_by (λ p. p.freq) (take (place + 1) list)
walked-more list place freq total within at so =
    omega (arith, so, freq_at list place freq within at, sum_by_more (λ p. p.freq) list place no_posting within)

pub walked-fits : (list : List Posting) (place freq total : ℕ) → place < length list → slice_get (freqs_of list) place ≡ Some freq
    → total ≡ sum_by (λ p. p.freq) (take place list) → total + freq ≤ sum_by (λ p. p.freq) list
walked-fits list place freq total within at so =
    omega (arith, so, freq_at list place freq within at, sum_by_more_le (λ p. p.freq) list place no_posting within)

-- where none stands all were walked
pub walked-all : (list : List Posting) (place total : ℕ) → option_map (λ p. p.doc) (slice_get list place) ≡ None
    → total ≡ sum_by (λ p. p.freq) (take place list) → total ≡ sum_by (λ p. p.freq) list
walked-all list place total none so =
    elim (slice_get_cases list place).1 [
      | inl within ↦ absurd (none-some (within.0.doc) (sym none ∙ ap (option_map (λ p. p.doc)) within.2))
      | inr past ↦ so ∙ ap (sum_by (λ p. p.freq)) (take_all place list past.0)
    ]
