-- What the contracts of private functions speak of. No public clause cites it, so it need not be believed.
pub mod Skips
pub mod Repeats
pub mod Outpoints
pub mod Walks
pub mod Kinds
pub mod Kept
pub mod Pairs
pub mod Maps
pub mod Found
pub mod Outlines
pub mod Locks
pub mod Inputs
