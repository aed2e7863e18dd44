use Rattle.std.proofs.Common.{◌≡◌, ℕ, ◌<◌, slice_index}
use Rattle.cursor_api.proofs.plain.PlainCursorDocCursor.docs_below.Given as goal

abbrev pub invariant-loop-j : goal.invariant-loop-j
invariant-loop-j l = (k : ℕ) → k < l.j → slice_index l.docs k ≡ slice_index l.rest k
