pub mod Frames
pub mod Places
pub mod Numbers
