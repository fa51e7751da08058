pub mod Causes
pub mod Waits
pub mod KeptCauses
