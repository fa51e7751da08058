pub mod Numbers
pub mod Words
pub mod Lines
pub mod Faults
pub mod Printing
pub mod Printed
pub mod bytes
