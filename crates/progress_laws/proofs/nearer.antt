-- Each step that doesn't wait comes nearer to a reply: the numbers of steps left fall, phase by phase.
pub mod Nearer
pub mod Levels
pub mod Calls
pub mod Freezes
pub mod AllNearer
pub mod Changes
