pub mod ModelsAlike
pub mod Parsed
pub mod Same
pub mod Transfer
