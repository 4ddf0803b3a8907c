pub mod Pair
pub mod Lent
