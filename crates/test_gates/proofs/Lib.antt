pub mod Alone
pub mod InTime
pub mod Splits
