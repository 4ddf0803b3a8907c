pub mod Replay
pub mod Transcript
pub mod Statements
