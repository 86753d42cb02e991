pub mod Marked
pub mod Stages
pub mod Survey
