pub mod Filling
pub mod Counting
pub mod Passing
pub mod Together
