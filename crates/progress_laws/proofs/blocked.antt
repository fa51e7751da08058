-- Where all have to wait: what each waits for, that it stays so, and what lost tasks have to do with it.
pub mod Blame
pub mod OneFreeze
pub mod BarredStarts
pub mod NobodyReplies
pub mod Remaining
pub mod LostStays
pub mod NeverReplies
