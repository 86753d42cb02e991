pub mod Beside
pub mod NewValues
