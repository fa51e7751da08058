pub mod Gates
pub mod Levels
