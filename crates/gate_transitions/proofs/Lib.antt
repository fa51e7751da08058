pub mod SamePhases
