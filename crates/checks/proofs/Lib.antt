pub mod Counting
pub mod Forming
pub mod Table
pub mod Upward
