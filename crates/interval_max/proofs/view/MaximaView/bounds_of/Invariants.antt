use Rattle.std.proofs.Common.{◌≡◌, ◌<◌, ℕ, Bool, List, get_or, length}
use Rattle.std.specs.List.{All}
use Rattle.collection_model.specs.Collection.{Posting}
use Rattle.interval_max.specs.Bounded.{IsBoundOf}
use Rattle.interval_max.specs.Kept.{AreMaximaOf}
use Rattle.interval_max.specs.declared.maxima.Bounds.{Bounds}
use Rattle.interval_max.proofs.view.MaximaView.bounds_of.Given as goal

abbrev pub invariant-loop-term : goal.invariant-loop-term
invariant-loop-term l = record {
  count : length l.bounds.items ≡ l.term-index;
  theirs : (has : ℕ → Bool) (list : ℕ → List Posting) (n : ℕ) → AreMaximaOf has list n l.self.bytes.now → All (λ t. t < n) l.terms → (i : ℕ) (b : Bounds) → i < l.term-index → IsBoundOf (list (get_or l.terms i 0)) (get_or l.bounds.items i b);
}
