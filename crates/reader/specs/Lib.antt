pub mod Part
pub mod Capture
pub mod Reader
