pub mod Memories
pub mod State
pub mod Instructions
pub mod Data
pub mod Glass
pub mod Named
