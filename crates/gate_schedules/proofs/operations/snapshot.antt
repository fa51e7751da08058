pub mod Noted
pub mod Completes
pub mod Events
pub mod Trace
