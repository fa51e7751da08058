pub mod Still
pub mod Reading
pub mod Advancing
pub mod Beginning
pub mod Opening
pub mod Gathering
pub mod Idle
pub mod Driving
