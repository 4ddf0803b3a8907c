pub mod Lookup
pub mod Dots
pub mod Tiles
