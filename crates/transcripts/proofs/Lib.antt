pub mod Playing
pub mod Opening
pub mod Showing
pub mod Texts
pub mod Running
pub mod Faults
pub mod Unrolled
pub mod Replaying
