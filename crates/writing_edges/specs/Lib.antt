pub mod Zips
pub mod ByPlace
pub mod Edges
pub mod Instructions
