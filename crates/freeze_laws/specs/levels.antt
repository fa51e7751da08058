pub mod Roles
pub mod Changes
pub mod Exchanges
pub mod Events
pub mod Laws
pub mod Numbers
pub mod Operations
