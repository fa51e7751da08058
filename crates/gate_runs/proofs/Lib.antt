pub mod Prelude
mod Repeating
pub mod Answering
pub mod Keeping
pub mod GivingUp
mod FirstCalls
mod Homes
mod Staying
mod Resting
mod Joining
