pub mod Backward
pub mod SoundEdges
pub mod Blocks
pub mod RowLists
pub mod BlockTables
pub mod AllBlocks
pub mod Functions
