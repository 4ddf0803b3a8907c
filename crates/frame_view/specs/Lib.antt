pub mod Dots
pub mod Braille
pub mod Plain
pub mod Pbm
