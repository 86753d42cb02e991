pub mod MarkedContexts
pub mod Surveying
