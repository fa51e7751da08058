pub mod Errors
pub mod Replies
pub mod Holders
pub mod States
pub mod Actions
pub mod Histories
pub mod Laws
