pub mod Entries
pub mod Runs
pub mod Narrowed
pub mod Remade
pub mod Instruction
