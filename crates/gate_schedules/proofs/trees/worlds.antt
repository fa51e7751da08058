pub mod Roles
pub mod Trees
pub mod Holders
pub mod MayTree
pub mod Parts
pub mod Events
pub mod OpenFiles
pub mod Frozen
