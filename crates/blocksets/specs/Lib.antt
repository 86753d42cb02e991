pub mod Operands
pub mod InRows
pub mod Instructions
pub mod BlockSets
