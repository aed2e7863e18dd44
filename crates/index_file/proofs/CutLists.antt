-- Lists that are cut into parts.
use Rattle.std.proofs.Common.{◌≡◌, refl, ap, List, [], ◌∷◌, map}
use Rattle.collection_model.specs.Collection.{Posting}
use Rattle.index_file.specs.FileWords.{CutList, ListParts, with_parts}

-- the lists and the parts of cut lists
abbrev pub lists_in : List CutList → List (List Posting)
lists_in cs = map (λ c. c.list) cs

abbrev pub parts_in : List CutList → List ListParts
parts_in cs = map (λ c. c.parts) cs

-- they make the cut lists again
pub with-parts-of : (cs : List CutList) → with_parts (lists_in cs) (parts_in cs) ≡ cs
with-parts-of [] = refl
with-parts-of (c ∷ cs) = ap (λ l. c ∷ l) (with-parts-of cs)
