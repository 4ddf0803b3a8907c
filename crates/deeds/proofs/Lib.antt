pub mod Kept
pub mod Leaves
pub mod Beside
pub mod Untimed
