pub mod Memory
pub mod Moves
pub mod Stepped
pub mod Drivers
pub mod Tells
