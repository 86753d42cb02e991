pub mod Impostors
pub mod Outcomes
