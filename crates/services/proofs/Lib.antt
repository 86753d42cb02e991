pub mod ListAnswers
pub mod LiveAnswers
