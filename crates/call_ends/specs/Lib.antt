pub mod Closings
pub mod CallingBack
pub mod Paths
pub mod Remounting
pub mod Reopenings
