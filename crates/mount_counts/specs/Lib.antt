pub mod Phases
pub mod Remounts
pub mod Roles
pub mod Sets
pub mod Ranks
