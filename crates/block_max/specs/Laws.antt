-- Laws of blocks and of side files.
use Rattle.std.specs.Prelude.{◌≡◌, ℕ, ◌<◌, List, None}
use Rattle.std.specs.List.{All}
use Rattle.collection_model.specs.Collection.{Posting}
use Rattle.block_max.specs.declared.fault.SideFault.{SideFault}
use Rattle.block_max.specs.Blocks.{AreBlocks, Block, BlockList, IsBlockList, block_from, blocks_of}
use Rattle.block_max.specs.SideFaults.{IsFirstSideFault}
use Rattle.block_max.specs.SideWords.{side_words}

-- The blocks of a list that is cut are blocks of it.
abbrev pub CutsAreBlocks : Type 0
CutsAreBlocks = (c : BlockList) → IsBlockList c → AreBlocks c.list (blocks_of c)

-- There is no block from a document on exactly where every document of the list is below it.
abbrev pub NoBlockBehindTheList : Type 0
NoBlockBehindTheList =
    (list : List Posting) (blocks : List Block) (d : ℕ) → AreBlocks list blocks
    → (block_from blocks d ≡ None → All (λ p. p.doc < d) list)
    × (All (λ p. p.doc < d) list → block_from blocks d ≡ None)

-- No check breaks at the side words, and words have one first fault at most.
pub record OneSideFault : Type 0 where
  pub none : (cs : List BlockList) (f : SideFault) → IsFirstSideFault cs (side_words cs) f → ⊥
  pub one : (cs : List BlockList) (words : List ℕ) (f g : SideFault) → IsFirstSideFault cs words f
      → IsFirstSideFault cs words g → f ≡ g
