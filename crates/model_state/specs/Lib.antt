pub mod Shown
pub mod Limits
