pub mod Chains
pub mod Progress
pub mod Tables
pub mod Bounds
