pub mod Roles
pub mod Events
pub mod Laws
