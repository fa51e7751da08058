pub mod Left
pub mod Reading
pub mod Words
pub mod SettingUp
pub mod FirstFaults
pub mod Observed
pub mod Idle
