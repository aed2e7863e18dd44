use Rattle.std.proofs.Common.{◌≡◌, ◌≤◌, length, map, take}
use Rattle.std.specs.List.{All}
use Rattle.smallvec.specs.SmallVec.{small_vec_len}
use Rattle.command_model.specs.Replies.{lists_of}
use Rattle.line_replies.proofs.SideCursors.{list_at, place_at}
use Rattle.line_replies.proofs.blockwise.add_block_cursors.Given as goal

abbrev pub invariant-loop-term : goal.invariant-loop-term
invariant-loop-term l = record {
  lists : map list_at l.cursors.items ≡ lists_of l.lists.blocks.now.index.now.collection (take l.term-index l.terms);
  start : All (λ c. place_at c ≡ 0) l.cursors.items;
  count : small_vec_len l.cursors ≡ l.term-index;
  room : length l.terms ≤ l.cursors.capacity;
}
