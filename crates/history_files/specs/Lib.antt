pub mod Answers
pub mod Operations
pub mod Records
pub mod Faults
pub mod Readings
pub mod Files
pub mod Verdicts
pub mod Unjudged
