pub mod Analysis
pub mod Live
pub mod Tables
