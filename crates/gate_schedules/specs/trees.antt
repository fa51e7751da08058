pub mod Events
pub mod Steps
pub mod Ends
