pub mod Alike
pub mod Events
pub mod Trace
pub mod Causes
pub mod Laws
