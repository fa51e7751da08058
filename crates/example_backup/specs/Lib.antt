pub mod Deadlines
pub mod Reports
