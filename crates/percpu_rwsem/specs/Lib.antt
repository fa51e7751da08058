pub mod SyncWords
pub mod Graces
pub mod Transitions
pub mod Readers
pub mod Writers
pub mod Callbacks
pub mod Phases
