-- Names with endings: whether one is another, and whether files would take the place of others.
use Rattle.std.proofs.Common.{◌≡◌, ℕ, refl, List, [], ◌∷◌, ◌++◌, length, take, drop, arith, ◌≢◌, get_or, reverse}
use Rattle.std.specs.Prelude.{◌&&◌, bytes_eq, ◌||◌, false}
use Rattle.std.proofs.lemmas.Slice.Eq.{bytes_eq-Decides}
use Rattle.std.proofs.lemmas.List.{append_cancel_right, reverse-append}
use Rattle.command_line.specs.Command.{is_file_of, takes_place}

-- a name that is a text and then an ending
pub joined_eq : (text ending name : List ℕ) → bytes_eq name (text ++ ending) ≡ (bytes_eq (take (length text) name) text && bytes_eq (drop (length text) name) ending)
joined_eq [] ending name = refl
joined_eq (b ∷ text) ending [] = refl
joined_eq (b ∷ text) ending (x ∷ name) = grind (arith, joined_eq text ending name)

-- the same ending behind both
same-ending : (a b ending : List ℕ) → bytes_eq (a ++ ending) (b ++ ending) ≡ bytes_eq a b
same-ending a b ending = grind (arith, bytes_eq-Decides, append_cancel_right)

-- endings whose last byte but one is not the same
other-ending : (a b one two : List ℕ) → get_or (reverse one ++ reverse a) 1 0 ≢ get_or (reverse two ++ reverse b) 1 0 → bytes_eq (a ++ one) (b ++ two) ≡ false
other-ending a b one two ne = grind (arith, bytes_eq-Decides (a ++ one) (b ++ two), reverse-append a one, reverse-append b two)

-- the bases are the same, or the map is one of the three files
pub place_taken : (base map to : List ℕ) → (bytes_eq to base || is_file_of to map) ≡ takes_place base map to
place_taken base map to = grind (arith, same-ending to base, other-ending to base)
