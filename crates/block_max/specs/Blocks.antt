-- Posting lists in blocks.
use Rattle.std.specs.Prelude.{ℕ, ◌-◌, ◌≤◌, nat_le, List, [], ◌∷◌, map, length, find, Contains, Option, IsSomeAnd, slice_index, slice_index_or, take, drop}
use Rattle.std.specs.List.{All, sum_by}
use Rattle.std.specs.List.Sorted.{IsStrictlyIncreasing}
use Rattle.collection_model.specs.Collection.{Posting, docs_of, greatest_freq}
use Rattle.part_cost.specs.Partition.{IsPartition}
use Rattle.cursor_api.specs.NextGeq.{IsCursorList}

-- what is known of a block of a posting list: its last document and its greatest frequency
pub record Block : Type 0 where
  pub last : ℕ
  pub greatest : ℕ

-- the first block whose last document is at least d
abbrev pub block_from : List Block → ℕ → Option Block
block_from blocks d = find (λ b. nat_le d b.last) blocks

-- Blocks of a list: their last documents rise and are documents of the list, and no posting has
-- more than the frequency of the first block that ends at its document or later; so there is such a
-- block.
pub record AreBlocks (list : List Posting) (blocks : List Block) : Type 0 where
  pub rising : IsStrictlyIncreasing (map (λ b. b.last) blocks)
  pub lasts : All (λ b. Contains (docs_of list) b.last) blocks
  pub covered : All (λ p. IsSomeAnd (block_from blocks p.doc) (λ b. p.freq ≤ b.greatest)) list

-- a list with the ends of its blocks
pub record BlockList : Type 0 where
  pub list : List Posting
  pub ends : List ℕ

-- A list of a cursor is cut into blocks.
pub record IsBlockList (c : BlockList) : Type 0 where
  pub cursor_list : IsCursorList c.list
  pub partition : IsPartition (length c.list) c.ends

-- the blocks of a list from place i on, which end at these places
abbrev pub blocks_at : List Posting → ℕ → List ℕ → List Block
blocks_at list i [] = []
blocks_at list i (end ∷ ends) = record {
  last = slice_index (docs_of list) (end - 1);
  greatest = greatest_freq (take (end - i) (drop i list));
} ∷ blocks_at list end ends

-- all blocks of a list
abbrev pub blocks_of : BlockList → List Block
blocks_of c = blocks_at c.list 0 c.ends

-- list t of some, the empty one behind them
abbrev pub nth_list : List BlockList → ℕ → BlockList
nth_list cs t = slice_index_or cs t (record { list = []; ends = [] })

-- how many blocks the lists before list t have
abbrev pub blocks_before : List BlockList → ℕ → ℕ
blocks_before cs t = sum_by (λ c. length c.ends) (take t cs)

-- block q of list t
abbrev pub nth_block : List BlockList → ℕ → ℕ → Block
nth_block cs t q = slice_index_or (blocks_of (nth_list cs t)) q (record { last = 0; greatest = 0 })
