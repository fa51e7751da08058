pub mod Digits
pub mod Positions
pub mod Printed
