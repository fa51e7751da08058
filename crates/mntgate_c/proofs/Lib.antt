pub mod HandleSteps
pub mod Results
pub mod Running
pub mod Splitting
pub mod Told
pub mod Unboxing
