pub mod Records
pub mod Statements
