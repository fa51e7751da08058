pub mod write_access
pub mod file_closes
