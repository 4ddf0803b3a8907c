pub mod Table
pub mod Touches
