-- Lemmas on vectors of documents and of frequencies that are aligned.
use Rattle.std.proofs.Common.{◌≡◌, refl, ap, ℕ, List, [], ◌∷◌, ◌++◌, length, Vec}
use Rattle.std.specs.declared.alloc.Global.{Global}
use Rattle.collection_model.specs.Collection.{postings_of}
use Rattle.collection_reader.specs.Held.{lists_held, AreAligned}

-- one more vector of documents, and one of frequencies
pub held_push : (docs freqs : List (Vec ℕ Global)) (d f : Vec ℕ Global) → AreAligned docs freqs → lists_held (docs ++ d ∷ []) (freqs ++ f ∷ []) ≡ lists_held docs freqs ++ postings_of d.items f.items ∷ []
held_push [] [] d f aligned = refl
held_push [] (g ∷ freqs) d f aligned = absurd aligned
held_push (e ∷ docs) [] d f aligned = absurd aligned
held_push (e ∷ docs) (g ∷ freqs) d f aligned = ap (λ l. postings_of e.items g.items ∷ l) (held_push docs freqs d f aligned.1)

pub aligned_push : (docs freqs : List (Vec ℕ Global)) (d f : Vec ℕ Global) → AreAligned docs freqs → length d.items ≡ length f.items → AreAligned (docs ++ d ∷ []) (freqs ++ f ∷ [])
aligned_push [] [] d f aligned same = (same, tt)
aligned_push [] (g ∷ freqs) d f aligned same = absurd aligned
aligned_push (e ∷ docs) [] d f aligned same = absurd aligned
aligned_push (e ∷ docs) (g ∷ freqs) d f aligned same = (aligned.0, aligned_push docs freqs d f aligned.1 same)
