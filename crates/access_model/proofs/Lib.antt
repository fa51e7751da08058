pub mod Closed
pub mod Lists
pub mod Held
pub mod Frozen
