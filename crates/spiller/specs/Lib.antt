pub mod RunPlaces
pub mod Instructions
pub mod InstructionSteps
