pub mod levels
pub mod stages
pub mod moments
