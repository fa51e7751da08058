pub mod InTime
