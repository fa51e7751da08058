pub mod Each
pub mod Stepping
pub mod Beginning
pub mod Opening
