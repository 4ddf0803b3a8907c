pub mod Flags
pub mod PackedUnpacked
pub mod LinkRead
