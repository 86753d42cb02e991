pub mod Adding
pub mod Joining
pub mod Pushing
pub mod Solving
pub mod Visiting
