pub mod Answers
pub mod Found
pub mod Planning
pub mod Plans
pub mod Rows
pub mod Trees
pub mod Unspilled
