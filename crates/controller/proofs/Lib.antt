pub mod Halves
pub mod Ranges
