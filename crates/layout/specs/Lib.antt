pub mod BlockRuns
pub mod Stepped
pub mod Copied
pub mod Numbered
pub mod Planned
pub mod Laid
pub mod Sizes
pub mod Whole
