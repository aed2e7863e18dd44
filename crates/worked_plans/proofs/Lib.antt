mod ListBlocks
