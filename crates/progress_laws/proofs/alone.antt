-- What comes of a scheduler that steps one task at a time until it has to wait, and then the next.
pub mod Alone
pub mod RunAlone
pub mod WaitKinds
pub mod FreezeAlone
pub mod Sweeps
pub mod FirstReply
