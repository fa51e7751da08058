pub mod Writes
pub mod Places
