-- What is known of a top list whose documents come in any order.
use Rattle.std.specs.Prelude.{◌≡◌, ℕ, ◌<◌, ◌⊎◌, Bool, true, false, List, [], ◌∷◌, filter, map, length, AllPairs, Contains}
use Rattle.std.specs.List.{All, list_any}
use Rattle.collection_model.specs.Collection.{Posting}
use Rattle.scan_plans.specs.Matches.{has_doc, in_any, score}
use Rattle.scan_plans.specs.IsTop.{Before, IsTop, IsTopOf}
use Rattle.scan_plans.specs.Ranking.{IsFirstK, IsLast}

-- No two of them are the same.
abbrev pub AreDifferent : {X : Type 0} → List X → Type 0
AreDifferent xs = AllPairs (λ x y. ¬ (x ≡ y)) xs

-- a pair that does not enter: k are held, and each of them stands before it
abbrev pub IsOutranked : ℕ → List (ℕ × ℕ) → ℕ × ℕ → Type 0
IsOutranked k held e = (length held ≡ k) × All (λ h. Before h e) held

-- the first k of the documents that are in any list and were seen
abbrev pub IsTopSeen : (ℕ → Bool) → ℕ → List (List Posting) → List ℕ → ℕ → List (ℕ × ℕ) → Type 0
IsTopSeen seen n lists weights k held = IsTopOf (filter seen (in_any n lists)) lists weights k held

-- The first k of nothing are none.
abbrev pub FirstOfNone : Type 0
FirstOfNone = (k : ℕ) → IsFirstK k [] []

-- The first k of what is held and a new pair are the first k of all pairs so far, which are
-- different, and that one.
abbrev pub FirstAfterOffer : Type 0
FirstAfterOffer = (k : ℕ) (e : ℕ × ℕ) (pairs held new : List (ℕ × ℕ)) → AreDifferent pairs
    → IsFirstK k pairs held → ¬ Contains pairs e → IsFirstK k (e ∷ held) new
    → IsFirstK k (e ∷ pairs) new

-- A pair that is outranked leaves them as they are.
abbrev pub FirstAfterPass : Type 0
FirstAfterPass = (k : ℕ) (e : ℕ × ℕ) (pairs held : List (ℕ × ℕ)) → IsFirstK k pairs held
    → IsOutranked k held e → IsFirstK k (e ∷ pairs) held

-- What comes after the last of k is outranked.
abbrev pub OutrankedByLast : Type 0
OutrankedByLast = (k : ℕ) (e last : ℕ × ℕ) (held : List (ℕ × ℕ)) → length held ≡ k
    → IsLast held last → Before last e → IsOutranked k held e

-- Before a document is seen nothing is held.
abbrev pub SeenNone : Type 0
SeenNone = (n : ℕ) (lists : List (List Posting)) (weights : List ℕ) (k : ℕ) (seen : ℕ → Bool)
    → ((d : ℕ) → seen d ≡ false) → IsTopSeen seen n lists weights k []

-- A document that was not seen is not held.
abbrev pub SeenIsHeld : Type 0
SeenIsHeld = (n d : ℕ) (lists : List (List Posting)) (weights : List ℕ) (k : ℕ)
    (seen : ℕ → Bool) (held : List (ℕ × ℕ)) → IsTopSeen seen n lists weights k held → seen d ≡ false
    → ¬ Contains (map (λ e. e.0) held) d

-- The first k of what is held and a document that is seen now are the top list of those seen so far
-- and that one.
abbrev pub SeenAfterOffer : Type 0
SeenAfterOffer = (n d : ℕ) (lists : List (List Posting)) (weights : List ℕ) (k : ℕ)
    (seen more : ℕ → Bool) (held new : List (ℕ × ℕ)) → IsTopSeen seen n lists weights k held → d < n
    → list_any (has_doc d) lists ≡ true → seen d ≡ false → more d ≡ true
    → ((e : ℕ) → ¬ (e ≡ d) → more e ≡ seen e) → IsFirstK k ((d, score lists weights d) ∷ held) new
    → IsTopSeen more n lists weights k new

-- Documents that no list has, or that are outranked, are seen without an offer.
abbrev pub SeenAfterSkips : Type 0
SeenAfterSkips = (n : ℕ) (lists : List (List Posting)) (weights : List ℕ) (k : ℕ)
    (seen more : ℕ → Bool) (held : List (ℕ × ℕ)) → IsTopSeen seen n lists weights k held
    → ((d : ℕ) → seen d ≡ true → more d ≡ true)
    → ((d : ℕ) → seen d ≡ false → more d ≡ true
    → (list_any (has_doc d) lists ≡ false) ⊎ IsOutranked k held (d, score lists weights d))
    → IsTopSeen more n lists weights k held

-- Where each document that a list has was seen, it is the top list.
abbrev pub SeenAll : Type 0
SeenAll = (n : ℕ) (lists : List (List Posting)) (weights : List ℕ) (k : ℕ)
    (seen : ℕ → Bool) (held : List (ℕ × ℕ)) → IsTopSeen seen n lists weights k held
    → ((d : ℕ) → d < n → list_any (has_doc d) lists ≡ true → seen d ≡ true)
    → IsTop n lists weights k held
