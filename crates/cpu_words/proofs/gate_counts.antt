pub mod Numbers
pub mod Events
pub mod Readers
pub mod Flags
pub mod LevelLaws
pub mod ZeroCountWrites
