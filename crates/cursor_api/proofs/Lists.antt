-- Lemmas on the postings of some documents and frequencies.
use Rattle.std.proofs.Common.{◌≡◌, sym, ap, ◌∙◌, ℕ, List, length}
use Rattle.std.specs.List.{slice_get}
use Rattle.std.specs.Option.{option_map}
use Rattle.std.proofs.lemmas.Option.{slice_get-map}
use Rattle.collection_model.specs.Collection.{postings_of}
use Rattle.collection_model.proofs.Lists.{docs-of_postings}

pub postings-doc : (docs freqs : List ℕ) (k : ℕ) → length docs ≡ length freqs → slice_get docs k ≡ option_map (λ p. p.doc) (slice_get (postings_of docs freqs) k)
postings-doc docs freqs k same = ap (λ xs. slice_get xs k) (sym (docs-of_postings docs freqs same)) ∙ slice_get-map (λ p. p.doc) (postings_of docs freqs) k
