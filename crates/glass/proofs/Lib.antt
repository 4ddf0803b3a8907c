pub mod Tables
pub mod Placed
pub mod Through
pub mod Natives
pub mod LooksUp
