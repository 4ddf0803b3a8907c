pub mod Refused
pub mod Once
pub mod Bits
