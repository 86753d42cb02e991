pub mod Asking
pub mod Naming
pub mod Storing
pub mod OneRecord
pub mod Slotting
