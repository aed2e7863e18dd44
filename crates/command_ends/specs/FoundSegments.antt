use Rattle.std.specs.Prelude.{◌≡◌, ◌≢◌, ℕ, ◌+◌, ◌<◌, List, [], ◌∷◌, ◌++◌, length, take, get_or, Err}
use Rattle.collection_model.specs.Collection.{Collection}
use Rattle.io_traits.specs.DepotState.{DepotState, bytes_under}
use Rattle.segments.specs.declared.pushed.Joining.{Joining}
use Rattle.segments.specs.declared.pushed.Joining.TheVariants.{Alike, Wide}
use Rattle.segments.specs.declared.pushed.SegRule.{SegRule}
use Rattle.segments.specs.declared.pushed.SegRule.TheVariants.{G1, G2, G3}
use Rattle.segments.specs.Joined.{CanJoin, documents_in, terms_in, joined, joined_wide, most_joined}
use Rattle.segments.specs.Totals.{AreTooFrequent, SumsFit}
use Rattle.command_model.specs.Found.{IsIndexSlot, most_bytes}
use Rattle.outcomes.specs.declared.stop.Stop.TheVariants.{BrokenSegment, UnfitSegment, TooLarge}
use Rattle.outcomes.specs.Outcome.{Outcome}
use Rattle.command_ends.specs.FoundIndex.{FindsIndexOf, HasBroken}

-- a collection that is not there
abbrev pub no_collection : Collection
no_collection = record { documents = 0; lists = []; sizes = [] }

-- The segments under these names are accepted: an index of each of these collections stands under
-- the name at its place, as far as the depot tells, and together they can be joined.
pub record FindsSegments (joining : Joining) (names : List (List ℕ)) (depot : DepotState)
    (cs : List Collection) : Type 0 where
  pub as_many : length cs ≡ length names
  pub each : (s : ℕ) → s < length names
      → FindsIndexOf (get_or names s []) depot (get_or cs s no_collection)
  pub fit : CanJoin joining cs

-- This is the collection to which some are joined: alike, or each with its own number of terms,
-- where no joined list is too frequent.
abbrev pub AreJoinedTo : Joining → List Collection → Collection → Type 0
AreJoinedTo Alike cs c = c ≡ joined cs
AreJoinedTo Wide cs c = SumsFit cs × (c ≡ joined_wide cs)

-- The segments under these names are accepted, and this is the collection that they are joined to.
abbrev pub FindsJoined : Joining → List (List ℕ) → DepotState → Collection → Type 0
FindsJoined joining names depot c =
    (cs : List Collection) × FindsSegments joining names depot cs × AreJoinedTo joining cs c

-- The segments before this one are accepted, and P holds of their collections and of its name.
abbrev pub OnSegment : Joining → List (List ℕ) → DepotState → ℕ
    → (List Collection → List ℕ → Type 0) → Type 0
OnSegment joining names depot s P =
    (s < length names)
    × ((cs : List Collection)
    × FindsSegments joining (take s names) depot cs × P cs (get_or names s []))

-- A collection cannot be joined behind others: it has another number of terms than the first of
-- them, where all have to be alike, or else too many documents.
abbrev pub IsUnfit : Joining → List Collection → Collection → SegRule → Type 0
IsUnfit Alike cs c G1 = (0 < length cs) × (length c.lists ≢ terms_in cs)
IsUnfit Alike cs c G2 =
    (length c.lists ≡ terms_in (cs ++ c ∷ [])) × (most_joined < documents_in cs + c.documents)
IsUnfit Wide cs c G2 = most_joined < documents_in cs + c.documents
IsUnfit joining cs c rule = ⊥

-- All segments are accepted, and with this one the least list that is too frequent is.
abbrev pub IsFrequentAt : Joining → List (List ℕ) → DepotState → ℕ → Type 0
IsFrequentAt Alike names depot s = ⊥
IsFrequentAt Wide names depot s =
    (cs : List Collection) × FindsSegments Wide names depot cs × AreTooFrequent cs s

-- A segment is refused so, and those before it are accepted: it is no index, and this is its first
-- check that breaks; or it is an index that cannot be joined to those before it, by this rule; or
-- it has more bytes than the limit. Or all are accepted, and with it a list is too frequent.
abbrev pub IsRefusedAt : Joining → List (List ℕ) → DepotState → Outcome → Type 0
IsRefusedAt joining names depot (Err (BrokenSegment fault s)) =
    OnSegment joining names depot s (λ cs name. HasBroken name depot fault)
IsRefusedAt joining names depot (Err (UnfitSegment G3 s)) = IsFrequentAt joining names depot s
IsRefusedAt joining names depot (Err (UnfitSegment rule s)) =
    OnSegment joining names depot s
    (λ cs name. (c : Collection) × FindsIndexOf name depot c × IsUnfit joining cs c rule)
IsRefusedAt joining names depot (Err (TooLarge slot)) =
    IsIndexSlot slot
    × ((s : ℕ)
    × OnSegment joining names depot s (λ cs name. most_bytes < length (bytes_under depot name)))
IsRefusedAt joining names depot outcome = ⊥
