-- Places of a window that are taken back, one after another.
use Rattle.std.proofs.Common.{◌∙◌, ℕ, ◌≤◌, List, arith}
use Rattle.scan_plans.specs.Window.{AreTakenBack}

-- what is taken back later
pub taken-then : (low to : ℕ) (scores marks ns nm news newm : List ℕ) → low ≤ to → AreTakenBack low scores marks ns nm → AreTakenBack to ns nm news newm → AreTakenBack to scores marks news newm
taken-then low to scores marks ns nm news newm le taken more =
    let count = taken.count in
    let words = taken.marks_count in
    record {
      count = more.count ∙ count;
      marks_count = more.marks_count ∙ words;
      unmarked = λ k lt within. more.unmarked k lt (omega arith);
      clear = λ k lt within. more.clear k lt (omega arith);
      marked = λ k after within. more.marked k after (omega arith) ∙ taken.marked k (omega arith) within;
      scored = λ k after within. more.scored k after (omega arith) ∙ taken.scored k (omega arith) within;
    }
