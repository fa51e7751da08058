-- What is known of gates that are closed: their words, and the counts that are summed there.
pub mod Closing
pub mod Ending
pub mod Gating
