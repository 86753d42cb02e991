pub mod EdgePlaces
pub mod FittingCases
pub mod Noting
pub mod StandingCases
pub mod PassedValues
