-- What is held of the best documents so far.
use Rattle.std.specs.Prelude.{◌≡◌, ℕ, ◌<◌, ◌≤◌, ◌^◌, List}
use Rattle.std.specs.List.{All}
use Rattle.collection_model.specs.Collection.{Posting}
use Rattle.scan_plans.specs.Matches.{AreBelow}
use Rattle.scan_plans.specs.Skips.{IsBarred}
use Rattle.topk_pruning.specs.declared.term.Term.{Term}
use Rattle.topk_pruning.specs.Terms.{Considers, FollowsTo}

-- the best documents of those that reach a floor: of how many at most, over how many documents, and
-- the pairs held, in order
pub record RankingFrom : Type 0 where
  pub k : ℕ
  pub n : ℕ
  pub floor : ℕ
  pub held : List (ℕ × ℕ)

-- a search for the best documents that goes on with those from one up to another
pub record IsSearch (lists : List (List Posting)) (from to : ℕ) (top : RankingFrom) : Type 0 where
  -- the lists have only documents below n
  pub below : AreBelow top.n lists
  -- the documents have numbers of 32 bits
  pub narrow : top.n < 2 ^ 32
  -- those that it goes on with are documents
  pub in_range : to ≤ top.n
  -- all documents held were passed
  pub above : All (λ e. e.0 < from) top.held

-- a search that went from one document on up to another
pub record IsSearchedTo (lists : List (List Posting)) (terms : List Term) (from to : ℕ)
    (old new : RankingFrom) : Type 0 where
  -- as many documents are wanted
  pub k : new.k ≡ old.k
  -- of as many
  pub n : new.n ≡ old.n
  -- from the same score on
  pub floor : new.floor ≡ old.floor
  -- what is held follows from what was held
  pub held : FollowsTo lists terms old.floor old.k from to old.held new.held

-- a search that considered a document with its score
pub record IsConsidered (doc score : ℕ) (old new : RankingFrom) : Type 0 where
  -- as many documents are wanted
  pub k : new.k ≡ old.k
  -- of as many
  pub n : new.n ≡ old.n
  -- from the same score on
  pub floor : new.floor ≡ old.floor
  -- the document is held if it is one of the first k
  pub held : Considers old.floor old.k doc score old.held new.held
  -- a score that was barred still is
  pub kept : (s : ℕ) → IsBarred old.floor old.k old.held s → IsBarred old.floor old.k new.held s
