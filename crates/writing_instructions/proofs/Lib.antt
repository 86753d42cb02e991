pub mod InWord
pub mod ByWord
