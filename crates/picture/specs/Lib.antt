pub mod Picture
pub mod Refusals
pub mod Tiles
pub mod Lent
