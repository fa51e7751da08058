pub mod Prelude
pub mod Closing
pub mod CallingBack
pub mod Remounting
pub mod Reopening
mod Beginning
mod Begun
mod Entering
mod Waited
