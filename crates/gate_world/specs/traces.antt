pub mod Found
pub mod Snapshots
pub mod TraceStates
pub mod Traces
