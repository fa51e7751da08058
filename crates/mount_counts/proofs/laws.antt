pub mod Bits
pub mod MountLaws
pub mod Sets
