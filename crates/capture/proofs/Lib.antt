pub mod ByKind
pub mod Answers
pub mod Taken
