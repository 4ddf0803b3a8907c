pub mod Inside
pub mod Unread
pub mod Tiles
