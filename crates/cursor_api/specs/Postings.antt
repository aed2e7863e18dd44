use Rattle.std.proofs.Common.{◌≡◌, refl, ℕ, ◌≤◌, List, [], ◌∷◌, length, arith}
use Rattle.collection_model.specs.Collection.{postings_of}
use Rattle.cursor_api.specs.NextGeq.{IsCursorList, IsCursorAt}

-- as many postings as documents
pub postings-length : (docs freqs : List ℕ) → length docs ≡ length freqs
    → length (postings_of docs freqs) ≡ length docs
postings-length [] freqs same = refl
postings-length (d ∷ docs) [] same = absurd (omega arith)
postings-length (d ∷ docs) (f ∷ freqs) same = let more : length (postings_of docs freqs) ≡ length docs = postings-length docs freqs (omega arith) in omega arith

-- a place of the documents is one of the postings
pub postings-stand_at : (docs freqs : List ℕ) (place : ℕ) → length docs ≡ length freqs
    → IsCursorList (postings_of docs freqs) → place ≤ length docs
    → IsCursorAt (postings_of docs freqs) place
postings-stand_at docs freqs place same list within = record { well_formed = list; within = omega (arith, postings-length docs freqs same) }
