pub mod Bits
pub mod Words
pub mod Rows
pub mod Tables
pub mod Passed
pub mod Written
