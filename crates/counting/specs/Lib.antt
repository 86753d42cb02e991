pub mod Added
pub mod OfFile
pub mod Weights
pub mod Totals
