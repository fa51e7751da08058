pub mod Faults
pub mod Left
pub mod Prefixes
pub mod Calls
pub mod SettingUp
pub mod Races
pub mod FirstFaults
pub mod Observed
