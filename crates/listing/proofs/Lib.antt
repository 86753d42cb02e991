pub mod Counting
pub mod Noting
pub mod Running
