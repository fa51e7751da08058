pub mod call_events
pub mod Histories
pub mod Seating
pub mod Meetings
pub mod Rules
pub mod Tables
