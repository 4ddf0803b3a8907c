pub mod Choice
pub mod Bits
pub mod Lists
pub mod Painting
pub mod Layout
