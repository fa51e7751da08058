pub mod Texts
pub mod Methods
pub mod Outcomes
pub mod Briefly
