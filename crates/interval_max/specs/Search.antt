-- The search for the best documents by intervals.
use Rattle.std.specs.Prelude.{◌≡◌, ◌≢◌, ℕ, ◌+◌, ◌*◌, ◌^◌, ◌<◌, ◌≤◌, ◌⊎◌, ◌==◌, ◌||◌, ◌&&◌, nat_le}
use Rattle.std.specs.Prelude.{nat_lt, Bool, true, false, List, length, sum, slice_index}
use Rattle.std.specs.List.{All, list_any}
use Rattle.collection_model.specs.Collection.{Posting}
use Rattle.scan_plans.specs.Matches.{AreBelow, has_doc, score}
use Rattle.scan_plans.specs.Ranking.{Ranking}
use Rattle.scan_plans.specs.AnyOrder.{IsTopSeen}
use Rattle.interval_max.specs.Intervals.{interval_of}
use Rattle.interval_max.specs.declared.run.Room.{Room}

-- whether a document lies in a window, from `first` on and before `end`
abbrev pub is_inside : ℕ → ℕ → ℕ → Bool
is_inside first end d = nat_le first d && nat_lt d end

-- whether a document was seen, or lies in a window
abbrev pub seen_with : (ℕ → Bool) → ℕ → ℕ → ℕ → Bool
seen_with seen first end d = seen d || is_inside first end d

-- What is held once the documents of a window, none of which was seen, were seen too.
pub record HasSeen (lists : List (List Posting)) (weights : List ℕ) (first end : ℕ)
    (old new : Ranking) : Type 0 where
  pub k : new.k ≡ old.k
  pub n : new.n ≡ old.n
  pub top : (seen : ℕ → Bool) → ((d : ℕ) → first ≤ d → d < end → seen d ≡ false)
      → IsTopSeen seen old.n lists weights old.k old.held
      → IsTopSeen (seen_with seen first end) old.n lists weights old.k new.held

-- No document that is held lies in a window.
abbrev pub AreOutside : ℕ → ℕ → List (ℕ × ℕ) → Type 0
AreOutside first end held = All (λ e. (e.0 < first) ⊎ (end ≤ e.0)) held

-- the documents of a window from `first` on that have a score can be offered
pub record AreOffers (first : ℕ) (scores : List ℕ) (top : Ranking) : Type 0 where
  -- the documents have numbers of 32 bits
  pub narrow : top.n < 2 ^ 32
  -- one that has a score is one of the n documents
  pub in_range : (k : ℕ) → k < length scores → 0 < slice_index scores k → first + k < top.n
  -- none of them is held
  pub outside : AreOutside first (first + length scores) top.held

-- the lists of a query over n documents, and their weights
pub record IsQuery (n : ℕ) (lists : List (List Posting)) (weights : List ℕ) : Type 0 where
  pub narrow : n < 2 ^ 32
  pub below : AreBelow n lists
  pub each : length weights ≡ length lists
  pub some : All (λ w. 1 ≤ w) weights
  pub light : sum weights < 2 ^ 26

-- a mark for each score of a window, and all scores are 0
pub record IsClear (scores marks : List ℕ) : Type 0 where
  pub wide : length scores ≤ 64 * length marks
  pub zero : All (λ s. s ≡ 0) scores

-- room to score a window of 1,024 documents
pub record IsReady (room : Room) : Type 0 where
  pub count : length room.scores.items ≡ 1024
  pub clear : IsClear room.scores.items room.marks.items

-- a score, not 0, below which none but 0 can enter: k are held, and each has a higher one
pub record IsLeastToEnter (top : Ranking) (least : ℕ) : Type 0 where
  pub some : 1 ≤ least
  pub lower : (s : ℕ) → s < least
      → (s ≡ 0) ⊎ ((length top.held ≡ top.k) × All (λ e. s < e.1) top.held)

-- whether an interval is settled, that of a document: its bound is 0
abbrev pub is_settled : List ℕ → ℕ → Bool
is_settled bounds d = slice_index bounds (interval_of d) == 0

-- The intervals from one up to another were settled, and the others stay.
pub record AreSettled (from to : ℕ) (old new : List ℕ) : Type 0 where
  pub settled : (j : ℕ) → from ≤ j → j < to → slice_index new j ≡ 0
  pub before : (j : ℕ) → j < from → slice_index new j ≡ slice_index old j
  pub behind : (j : ℕ) → to ≤ j → slice_index new j ≡ slice_index old j

-- a search with bounds of the scores in each interval
pub record IsSearch (n : ℕ) (lists : List (List Posting)) (weights : List ℕ) (k : ℕ)
    (bounds : List ℕ) (held : List (ℕ × ℕ)) : Type 0 where
  -- the first k of the documents in settled intervals are held
  pub top : IsTopSeen (is_settled bounds) n lists weights k held
  -- no document in an interval that is not settled has a score above the bound there
  pub bounded : (d : ℕ) → list_any (has_doc d) lists ≡ true
      → slice_index bounds (interval_of d) ≢ 0
      → score lists weights d ≤ slice_index bounds (interval_of d)
