pub mod Holders
pub mod Levels
pub mod Freezes
pub mod Thaws
pub mod Answers
pub mod Phases
pub mod holder_laws
