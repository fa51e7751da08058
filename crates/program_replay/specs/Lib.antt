pub mod Noted
pub mod Replays
pub mod Standing
pub mod Shown
pub mod Driven
pub mod Tells
