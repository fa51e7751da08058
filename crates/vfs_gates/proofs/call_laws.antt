-- Lemmas of the laws of whole calls, in the order of time and of how far they come.
pub mod NothingAdded
pub mod Blocked
pub mod WaitFree
pub mod Dropped
pub mod TreeStays
pub mod HookFailed
pub mod Timing
pub mod FoundNobody
