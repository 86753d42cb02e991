pub mod Table
pub mod Replays
