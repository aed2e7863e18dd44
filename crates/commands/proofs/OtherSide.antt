-- A file that begins with another word than a side file: which check it breaks, whatever stands behind that word.
use Rattle.std.proofs.Common.{arith, ◌≢◌, ℕ, ◌-◌, List, [], ◌∷◌, refl, sym, subst, inl, inr, arith, Ok, slice_index, Contains}
use Rattle.commands.proofs.Names.{Side, DepotState, SideFault, BlockList, side_opening, side_words, IsFirstSideFault, LoadsKept, IsNoSide}

-- words that do not begin with one of these do not begin with that word
other-first : (words : List ℕ) → ¬ Contains (side_opening ∷ []) (slice_index words 0) → slice_index words 0 ≢ side_opening
other-first words other is = other (subst (λ w. Contains (side_opening ∷ []) w) (sym is) (0, omega arith, refl))

-- words that are not are loaded where some of them are
pub kept_is_none : (cs : List BlockList) (name : List ℕ) (d d' : DepotState) (words : List ℕ) (fault : SideFault) → LoadsKept (side_opening ∷ []) Side name d d' (Ok words)
    → words ≢ side_words cs → IsFirstSideFault cs words fault → IsNoSide cs name d d' fault
kept_is_none cs name d d' words fault (all, inl same, loads) no_side first = record { words = all; loads = loads; no_side = grind arith; first = grind arith }
kept_is_none cs name d d' words fault (all, inr o, loads) no_side first =
    let here : slice_index words 0 ≢ side_opening = other-first words o.other in
    record { words = all; loads = loads; no_side = grind arith; first = grind arith }
