pub mod Events
pub mod Trace
pub mod Progress
pub mod Laws
