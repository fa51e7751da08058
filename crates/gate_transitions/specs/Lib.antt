pub mod TaskStates
pub mod Answers
