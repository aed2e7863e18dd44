use Rattle.std.proofs.Common.{ℕ, ◌<◌, ◌≤◌, get_or}
use Rattle.query_text.proofs.replies.widest.Given as goal

abbrev pub invariant-loop-entry : goal.invariant-loop-entry
invariant-loop-entry l = (j : ℕ) (d : ℕ × ℕ) → j < l.entry-index → ((get_or l.top j d).0 ≤ l.docs) × ((get_or l.top j d).1 ≤ l.scores)
