pub mod Limits
pub mod Printing
pub mod Transcript
pub mod Reached
pub mod Sessions
pub mod Replayed
pub mod Replaying
pub mod LineReplays
