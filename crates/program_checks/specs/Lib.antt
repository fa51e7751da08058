pub mod Checks
pub mod Claims
pub mod Said
