pub mod Parts
pub mod Loads
pub mod Runs
pub mod SumCauses
pub mod Progress
