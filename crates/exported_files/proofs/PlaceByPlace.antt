-- The numbers of a list that a cursor reads, place by place.
use Rattle.std.proofs.Common.{◌≡◌, sym, ap, ◌∙◌, ℕ, ◌<◌, ◌≤◌, List, length, get_or, Some, inl, inr, arith}
use Rattle.std.specs.Prelude.{true, false, None, is_some, map, option_map, slice_get}
use Rattle.std.proofs.lemmas.List.{length-map}
use Rattle.std.proofs.lemmas.Bool.{cases_lt}
use Rattle.std.proofs.lemmas.Option.{none-some, slice_get-get_or, slice_get-map, slice_get_past, slice_get_within, get_or_from_slice_get}
use Rattle.collection_model.specs.Collection.{Posting, docs_of, freqs_of}

-- a number that stands at a place of some of the items
pub number-within : {A : Type 0} (f : A → ℕ) (xs : List A) (p n : ℕ) → slice_get (map f xs) p ≡ Some n → (p < length (map f xs)) × (n ≡ get_or (map f xs) p 0)
number-within f xs p n is = (slice_get_within (map f xs) p n is, sym (get_or_from_slice_get (map f xs) p n 0 is))

-- the same of what an item at a place says
pub item-within : {A : Type 0} (f : A → ℕ) (xs : List A) (p n : ℕ) → option_map f (slice_get xs p) ≡ Some n → (p < length (map f xs)) × (n ≡ get_or (map f xs) p 0)
item-within f xs p n is = number-within f xs p n (slice_get-map f xs p ∙ is)

-- where no item stands at a place, all are passed
pub item-passed : {A : Type 0} (f : A → ℕ) (xs : List A) (p : ℕ) → option_map f (slice_get xs p) ≡ None → length (map f xs) ≤ p
item-passed f xs p is = elim (cases_lt p (length (map f xs))) as (λ _. length (map f xs) ≤ p) [
  | inl lt ↦ absurd (none-some (get_or (map f xs) p 0) (sym (slice_get-map f xs p ∙ is) ∙ slice_get-get_or (map f xs) p 0 lt))
  | inr past ↦ past
]

-- a document that a cursor at a place of a list tells
pub doc-at : (list now : List Posting) (p d : ℕ) → now ≡ list → option_map (λ p. p.doc) (slice_get now p) ≡ Some d → (p < length (docs_of list)) × (d ≡ get_or (docs_of list) p 0)
doc-at list now p d same is = item-within (λ p. p.doc) list p d (ap (λ l. option_map (λ p. p.doc) (slice_get l p)) (sym same) ∙ is)

-- where it tells none, all are passed
pub docs-passed : (list now : List Posting) (p : ℕ) → now ≡ list → option_map (λ p. p.doc) (slice_get now p) ≡ None → length (docs_of list) ≤ p
docs-passed list now p same is = item-passed (λ p. p.doc) list p (ap (λ l. option_map (λ p. p.doc) (slice_get l p)) (sym same) ∙ is)

-- its frequency, and of how many it is one
pub freq-at : (list now : List Posting) (p f : ℕ) → now ≡ list → slice_get (freqs_of now) p ≡ Some f → (p < length (freqs_of list)) × (f ≡ get_or (freqs_of list) p 0)
freq-at list now p f same is = number-within (λ p. p.freq) list p f (ap (λ l. slice_get (freqs_of l) p) (sym same) ∙ is)

-- a cursor that tells a document stands at a place of its list
pub told-within : (now : List Posting) (p : ℕ) → is_some (option_map (λ p. p.doc) (slice_get now p)) ≡ true → p < length now
told-within now p is = elim (cases_lt p (length now)) as (λ _. p < length now) [
  | inl lt ↦ lt
  | inr past ↦ (let bad : true ≡ false = sym is ∙ ap (λ o. is_some (option_map (λ (p : Posting). p.doc) o)) (slice_get_past now p past) in absurd cc)
]

-- where it tells none, all are passed
pub freqs-passed : (list now : List Posting) (p : ℕ) → now ≡ list → is_some (option_map (λ p. p.doc) (slice_get now p)) ≡ false → length (freqs_of list) ≤ p
freqs-passed list now p same is = elim (cases_lt p (length now)) as (λ _. length (freqs_of list) ≤ p) [
  | inl lt ↦ (let bad : false ≡ true = sym is ∙ ap (λ o. is_some (option_map (λ (p : Posting). p.doc) o)) (slice_get-get_or now p (record { doc = 0; freq = 0 }) lt) in absurd cc)
  | inr past ↦ omega (arith, past, ap length same, length-map list (λ (p : Posting). p.freq))
]
