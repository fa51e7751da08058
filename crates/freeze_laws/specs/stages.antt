pub mod Roles
pub mod Events
pub mod Shown
pub mod Laws
