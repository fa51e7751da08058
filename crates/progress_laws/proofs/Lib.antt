pub mod Prelude
pub mod rounds
pub mod nearer
pub mod alone
pub mod WaitFree
pub mod blocked
pub mod Undone
mod Worked
