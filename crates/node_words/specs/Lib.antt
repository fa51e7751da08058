pub mod Nodes
pub mod Phases
