pub mod Answers
pub mod Going
pub mod Endless
pub mod Parts
pub mod Roomy
pub mod Through
