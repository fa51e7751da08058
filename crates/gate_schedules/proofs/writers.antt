pub mod Parts
pub mod Owner
pub mod Stages
pub mod Words
pub mod Progress
