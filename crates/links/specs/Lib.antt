pub mod Halves
pub mod Idle
pub mod Taken
