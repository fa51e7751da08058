pub mod Asked
mod Listed
mod Validated
