pub mod gate_counts
pub mod Names
pub mod Touches
pub mod Words
pub mod Lists
pub mod Sums
pub mod Hooks
