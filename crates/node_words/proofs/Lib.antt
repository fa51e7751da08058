pub mod Packing
pub mod Words
pub mod ClearedMarks
pub mod Refused
