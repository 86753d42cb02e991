pub mod Running
pub mod Words
