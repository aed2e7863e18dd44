use Rattle.std.specs.Prelude.{◌≡◌, ◌⊎◌, ℕ, List, [], ◌∷◌, length, Option, Some, None, Err}
use Rattle.commands.specs.Names.{Collection, Index, DepotState, IndexView, IsIndexSlot, Stop, IndexesAt, Joining, AreJoinedTo, FindsSegments, IsRead, IsUnread, Outcome, Starts, at_segment, OnlyReads, WasStartedAs}
use Rattle.segments.specs.declared.pushed.SegRule.{SegRule}
use Rattle.segments.specs.Joined.{documents_in}
use Rattle.segments.specs.Segments.{Pushed, rule_broken, with_segment}
use Rattle.index_reading.specs.JoinedIndexes.{collections_of}
use Rattle.outcomes.specs.declared.stop.Stop.TheVariants as stop
use Rattle.outcomes.specs.declared.stop.Stop.TheVariants.{NoMemory}
use Rattle.outcomes.specs.Outcome.{fault_of}
use Rattle.command_ends.specs.Sources.{EndsAt}
use Rattle.command_ends.specs.SegmentStarts.{IsSegmentCount, StartedUnder}
use Rattle.command_ends.specs.Steps.LoadedIndex.{IsLoaded, IsUnloaded}

-- how many terms the first of some collections has, where there is one
abbrev pub first_terms : List Collection → Option ℕ
first_terms [] = None
first_terms (c ∷ cs) = Some (length c.lists)

-- what was pushed once these collections were
abbrev pub pushed_of : Joining → List Collection → Pushed
pushed_of joining cs = record {
  joining = joining;
  documents = documents_in cs;
  terms = first_terms cs;
}

-- the rule that an index breaks behind what was pushed
abbrev pub rule_at : Pushed → Collection → Option SegRule
rule_at before c = rule_broken before c.documents (length c.lists)

-- This index was loaded, its file started once, and it is accepted behind what was pushed.
pub record IsAccepted (name : List ℕ) (before after : Pushed) (old now : DepotState)
    (index : IndexView) : Type 0 where
  pub loaded : IsLoaded name old now index
  pub started : WasStartedAs name Index old now
  pub fits : rule_at before index.collection ≡ None
  pub pushed : after ≡ with_segment before index.collection.documents
      (length index.collection.lists)

-- A run stops so at segment s:
-- no index was loaded, or one that breaks a rule behind what was pushed.
pub record IsRejected (name : List ℕ) (s : ℕ) (before : Pushed) (old now : DepotState)
    (it : Stop) : Type 0 where
  pub why : ((at : Stop) × IsUnloaded name old now at × (it ≡ at_segment s at))
      ⊎ ((rule : SegRule) × (index : IndexView) × IsLoaded name old now index
      × (rule_at before index.collection ≡ Some rule) × (it ≡ stop.UnfitSegment rule s))
  pub started : WasStartedAs name Index old now

-- These are the segments under the names, which were read and are accepted.
pub record AreAccepted (joining : Joining) (names : List (List ℕ)) (after : Pushed)
    (old now : DepotState) (indexes : List IndexView) : Type 0 where
  pub found : FindsSegments joining names old (collections_of indexes)
  pub pushed : after ≡ pushed_of joining (collections_of indexes)
  pub reads : OnlyReads IsIndexSlot old now
  pub faults : now.faults Index ≡ old.faults Index
  pub starts : StartedUnder names (old.starts Index) (now.starts Index)
  pub refusals : now.refusals ≡ old.refusals

-- These are all segments, which were read and are accepted. Where they are joined to a collection,
-- the source was read; a run can also end at it, as where a joined list is too frequent.
pub record AreLoaded (joining : Joining) (names : List (List ℕ)) (old now : DepotState)
    (indexes : List IndexView) : Type 0 where
  pub found : FindsSegments joining names old (collections_of indexes)
  pub read : (c : Collection) → AreJoinedTo joining (collections_of indexes) c
      → IsRead (IndexesAt joining names) old now
  pub starts : (outcome : Outcome) → IsSegmentCount joining names old outcome (length names)
      → Starts (IndexesAt joining names) outcome old now
  pub unread : (outcome : Outcome)
      → EndsAt (IndexesAt joining names) old outcome ⊎ (outcome ≡ Err NoMemory)
      → fault_of outcome ≡ None → IsSegmentCount joining names old outcome (length names)
      → IsUnread (IndexesAt joining names) old now outcome
