pub mod Blocks
pub mod Fronts
