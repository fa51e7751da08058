pub mod Moments
pub mod TraceInvariant
pub mod Traced
pub mod Cleans
