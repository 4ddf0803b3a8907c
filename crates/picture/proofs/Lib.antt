pub mod Parts
pub mod Unread
pub mod Wide
pub mod Bytes
pub mod Accepted
pub mod Masks
