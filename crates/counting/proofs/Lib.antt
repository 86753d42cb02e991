pub mod Blocks
pub mod Sums
pub mod Weighing
