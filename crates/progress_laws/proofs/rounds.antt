-- What comes of any scheduler: a potential falls until all have to wait, in rounds too, and where freezes give up.
pub mod Potentials
pub mod Settling
pub mod Measured
pub mod Rounds
pub mod FairlyBlocked
pub mod GivingUp
