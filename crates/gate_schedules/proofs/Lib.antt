pub mod Prelude
pub mod frames
pub mod traces
pub mod mounts
pub mod levels
pub mod writers
