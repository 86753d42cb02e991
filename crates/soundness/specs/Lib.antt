pub mod Standing
pub mod Ending
pub mod Holding
pub mod Fitting
pub mod Soundness
pub mod Tails
