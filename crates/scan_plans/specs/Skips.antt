-- What is known of a top list that is made document after document, and of a cursor that skips.
use Rattle.std.specs.Prelude.{◌≡◌, ℕ, ◌+◌, ◌<◌, ◌≤◌, ◌⊎◌, List, [], ◌∷◌, length, Some, None, true, false, slice_index}
use Rattle.std.specs.List.{All, list_any}
use Rattle.collection_model.specs.Collection.{Posting, freqs_of}
use Rattle.cursor_api.specs.NextGeq.{IsCursorAt, next_geq_place}
use Rattle.scan_plans.specs.Matches.{AreBelow, has_doc, freq_of_doc, score}
use Rattle.scan_plans.specs.IsTop.{IsTopFrom}
use Rattle.scan_plans.specs.Ranking.{IsFirstK}
use Rattle.scan_plans.specs.Scan.{doc_at, StandsFrom, HasPassed}

-- a score with which a later document would not be held: it is below the floor, or k are held and
-- none of them has a lower one
abbrev pub IsBarred : ℕ → ℕ → List (ℕ × ℕ) → ℕ → Type 0
IsBarred floor k held s = (s < floor) ⊎ ((length held ≡ k) × All (λ e. s ≤ e.1) held)

-- a document that would not be held after those before it: no list has it, or its score is barred
abbrev pub CannotEnter : List (List Posting) → List ℕ → ℕ → ℕ → List (ℕ × ℕ) → ℕ → Type 0
CannotEnter lists weights floor k held d = (list_any (has_doc d) lists ≡ false)
    ⊎ IsBarred floor k held (score lists weights d)

-- Before the first document nothing is held.
abbrev pub TopOfNone : Type 0
TopOfNone = (floor : ℕ) (lists : List (List Posting)) (weights : List ℕ) (k : ℕ)
    → IsTopFrom floor 0 lists weights k []

-- The first k of what is held and the next document, whose score reaches the floor, are the top
-- list up to that document.
abbrev pub TopAfterOffer : Type 0
TopAfterOffer = (floor d : ℕ) (lists : List (List Posting)) (weights : List ℕ) (k : ℕ)
    (held new : List (ℕ × ℕ)) → IsTopFrom floor d lists weights k held
    → list_any (has_doc d) lists ≡ true → floor ≤ score lists weights d
    → IsFirstK k ((d, score lists weights d) ∷ held) new
    → IsTopFrom floor (d + 1) lists weights k new

-- Documents that cannot enter are skipped, and the top list stays.
abbrev pub TopAfterSkips : Type 0
TopAfterSkips = (floor low high : ℕ) (lists : List (List Posting)) (weights : List ℕ) (k : ℕ)
    (held : List (ℕ × ℕ)) → low ≤ high
    → ((d : ℕ) → low ≤ d → d < high → CannotEnter lists weights floor k held d)
    → IsTopFrom floor low lists weights k held → IsTopFrom floor high lists weights k held

-- What is held are documents that were passed.
abbrev pub TopIsBelow : Type 0
TopIsBelow = (floor n : ℕ) (lists : List (List Posting)) (weights : List ℕ) (k : ℕ)
    (held : List (ℕ × ℕ)) → IsTopFrom floor n lists weights k held → All (λ e. e.0 < n) held

-- A document that one of the lists has is below n.
abbrev pub HasOnlyBelow : Type 0
HasOnlyBelow = (n : ℕ) (lists : List (List Posting)) (d : ℕ) → AreBelow n lists
    → list_any (has_doc d) lists ≡ true → d < n

-- A cursor that has passed no document from d on, and does not stand before d, stands from d on.
abbrev pub StandsWhereItIs : Type 0
StandsWhereItIs = (list : List Posting) (d place : ℕ) → IsCursorAt list place
    → HasPassed d list place → ((e : ℕ) → doc_at list place ≡ Some e → d ≤ e)
    → StandsFrom d list place

-- One that stands at the document before d stands from d on one place later.
abbrev pub StandsOneLater : Type 0
StandsOneLater = (list : List Posting) (d place : ℕ) → IsCursorAt list place
    → doc_at list place ≡ Some d → StandsFrom (d + 1) list (place + 1)

-- One that has passed no document from d on stands from d on at the next place of d.
abbrev pub StandsAtNextGeq : Type 0
StandsAtNextGeq = (list : List Posting) (d place : ℕ) → IsCursorAt list place
    → HasPassed d list place → StandsFrom d list (next_geq_place list place d)

-- A list whose cursor stands from d on has the document at which it stands, not before d, with the
-- frequency there.
abbrev pub HasWhereItStands : Type 0
HasWhereItStands = (list : List Posting) (d next place : ℕ) → IsCursorAt list place
    → StandsFrom d list place → doc_at list place ≡ Some next
    → (d ≤ next) × (has_doc next list ≡ true)
    × (freq_of_doc next list ≡ slice_index (freqs_of list) place)

-- A list whose cursor stands from d on, and not at it, has it not.
abbrev pub HasNotWhereItStands : Type 0
HasNotWhereItStands = (list : List Posting) (d place : ℕ) → IsCursorAt list place
    → StandsFrom d list place → ¬ (doc_at list place ≡ Some d)
    → (has_doc d list ≡ false) × (freq_of_doc d list ≡ 0)

-- A list has no document from d on and before that at which its cursor stands from d on.
abbrev pub NothingBetween : Type 0
NothingBetween = (list : List Posting) (d place next e : ℕ) → IsCursorAt list place
    → StandsFrom d list place → doc_at list place ≡ Some next → d ≤ e → e < next
    → has_doc e list ≡ false

-- It has none from d on where its cursor is at the end.
abbrev pub NothingLeft : Type 0
NothingLeft = (list : List Posting) (d place e : ℕ) → StandsFrom d list place
    → doc_at list place ≡ None → d ≤ e → has_doc e list ≡ false
