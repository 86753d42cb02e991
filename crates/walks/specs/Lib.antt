pub mod Paths
pub mod Walks
pub mod Line
pub mod Reachable
pub mod InFile
pub mod Machine
