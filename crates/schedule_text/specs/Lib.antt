pub mod Commands
pub mod Parsing
pub mod Verbs
