pub mod Marks
pub mod Moving
pub mod Places
pub mod Raising
pub mod Stacking
