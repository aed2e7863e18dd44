-- What is known of the lists of joined collections.
use Rattle.std.specs.Prelude.{◌≡◌, ℕ, ◌<◌, ◌≤◌, List, length, sum}
use Rattle.std.specs.List.{All}
use Rattle.collection_model.specs.FormatNumbers.{FormatNumbers, format_three}
use Rattle.collection_model.specs.Collection.{Collection, WellFormed, docs_of, list_of}
use Rattle.segments.specs.Joined.{parts_behind, documents_in, joined_list, joined, joined_wide, most_joined, FitTogether, FollowInOrder}
use Rattle.segments.specs.Ranges.{ranges_of}
use Rattle.segments.specs.Totals.{SumsFit}

-- The documents of the lists of a collection are below their number.
abbrev pub IsInRange : Collection → Type 0
IsInRange c = All (λ list. All (λ d. d < c.documents) (docs_of list)) c.lists

-- The lists of a term in collections of not too many documents follow one another.
abbrev pub ListsFollow : Type 0
ListsFollow =
    (cs : List Collection) (t : ℕ) → All IsInRange cs → documents_in cs ≤ most_joined
    → FollowInOrder (parts_behind 0 cs t)

-- One after the other they are its list in the joined collection.
abbrev pub ListsAreJoined : Type 0
ListsAreJoined =
    (cs : List Collection) (t : ℕ) → list_of (joined_wide cs) t ≡ joined_list (parts_behind 0 cs t)

-- The documents of the joined collection are below their number.
abbrev pub JoinedIsInRange : Type 0
JoinedIsInRange = (cs : List Collection) → All IsInRange cs → IsInRange (joined_wide cs)

-- Where each has as many terms as the first, the most terms are those.
abbrev pub WideIsJoined : Type 0
WideIsJoined = (cs : List Collection) → FitTogether cs → joined_wide cs ≡ joined cs

-- A collection is well formed in some format.
abbrev pub IsWellFormed : Collection → Type 0
IsWellFormed c = (format : FormatNumbers) × WellFormed format c

-- The joined collection of well-formed ones is well formed, as a packed file has it, where it has
-- not too many documents and no list of too great a sum.
abbrev pub JoinedIsWellFormed : Type 0
JoinedIsWellFormed =
    (cs : List Collection) → All IsWellFormed cs → documents_in cs ≤ most_joined → SumsFit cs
    → WellFormed format_three (joined_wide cs)

-- The ranges into which a collection is cut are joined to that collection.
abbrev pub RangesAreJoined : Type 0
RangesAreJoined =
    (format : FormatNumbers) (c : Collection) (counts : List ℕ) → WellFormed format c
    → 0 < length counts → sum counts ≡ c.documents → joined (ranges_of c 0 counts) ≡ c
