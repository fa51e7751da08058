pub mod Trace
pub mod Fits
pub mod Causes
pub mod Waits
pub mod Events
pub mod Runs
pub mod Progress
pub mod Laws
