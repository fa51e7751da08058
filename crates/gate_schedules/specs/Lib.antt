pub mod Frozen
pub mod Leads
pub mod operations
pub mod trees
