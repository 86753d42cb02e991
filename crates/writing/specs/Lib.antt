pub mod Wrote
pub mod Places
pub mod Put
pub mod Parts
pub mod Steps
