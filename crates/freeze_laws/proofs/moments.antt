pub mod Moments
pub mod Frozen
pub mod Sample
