pub mod Packed
pub mod LinkPacked
