pub mod Classes
pub mod Lists
pub mod Changes
pub mod Turns
pub mod Loop
pub mod Replays
pub mod Sizing
