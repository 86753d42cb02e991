pub mod Standing
pub mod Operands
pub mod Walking
pub mod Marks
pub mod SlotsGiven
pub mod Lent
