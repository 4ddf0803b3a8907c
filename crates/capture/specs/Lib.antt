pub mod Kinds
pub mod Record
