pub mod Loads
pub mod Counts
pub mod Events
pub mod Fits
pub mod Causes
pub mod Trace
pub mod Waits
pub mod Laws
