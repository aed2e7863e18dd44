-- What the windows of documents of a query are scored with.
use Rattle.std.specs.Prelude.{◌≡◌, ℕ, ◌+◌, ◌*◌, ◌<◌, ◌≤◌, ◌^◌, false, List, map, length, slice_index}
use Rattle.collection_model.specs.Collection.{Posting}
use Rattle.scan_plans.specs.Window.{IsBlank, is_marked}
use Rattle.topk_pruning.specs.declared.candidates.Candidate.{Candidate}
use Rattle.topk_pruning.specs.declared.scorer.Scorer.{Scorer}
use Rattle.topk_pruning.specs.declared.term.Term.{Term}
use Rattle.topk_pruning.specs.Terms.{AreBefore, AreTermsIn, bounds, in_lists, score_in}

-- A scorer has room for the terms of a query, of which there are so many, and for the next window
-- of the n documents
pub record IsReady (count n : ℕ) (r : Scorer) : Type 0 where
  -- there is room for each term
  pub each : length r.terms.items ≡ count
  -- the window has a document
  pub some : 1 ≤ r.width
  -- and a score for each that it has
  pub fits : r.width ≤ length r.scores.items
  -- nothing is scored or marked
  pub blank : IsBlank r.scores.items r.marks.items
  -- the documents are so many
  pub documents : r.n ≡ n
  -- and have numbers of 32 bits
  pub narrow : n < 2 ^ 32

-- a window of documents from `first` on that are scored and marked by the lists of some terms; so
-- many places were reached
pub record IsScoredIn (lists : List (List Posting)) (terms : List Term) (first : ℕ)
    (scores marks : List ℕ) (reached : ℕ) : Type 0 where
  -- each score has a mark
  pub wide : length scores ≤ 64 * length marks
  -- each score is what the lists give the document
  pub scored : (k : ℕ) → k < length scores → slice_index scores k ≡ score_in lists (first + k) terms
  -- the documents that one of the lists has are marked
  pub marked : (k : ℕ) → k < length scores → is_marked marks k ≡ in_lists lists (first + k) terms
  -- no place behind the window was reached
  pub within : reached ≤ length scores
  -- nothing is marked from those reached on
  pub behind : (k : ℕ) → reached ≤ k → k < 64 * length marks → is_marked marks k ≡ false

-- the terms whose lists are asked for a candidate, and what they can add to its score
pub record AreAsked {X : Type 0} (list : X → List Posting)
    (place : X → ℕ) (c : Candidate) (terms : List Term) (cursors : List X) : Type 0 where
  -- the bounds hold for the document
  pub terms_in : AreTermsIn (map list cursors) c.doc (c.doc + 1) terms
  -- they can add all their bounds
  pub bound : c.left ≡ bounds terms
  -- the score stays light
  pub light : c.known + c.left < 2 ^ 58
  -- their cursors have passed no document from this one on
  pub before : AreBefore list place c.doc terms cursors
