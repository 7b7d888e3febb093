pub mod Says
pub mod Joined
pub mod Counted
pub mod Signers
pub mod Atoms
pub mod Satisfied
pub mod NeedsKey
mod LockKinds
mod LocksHeld
pub mod OneTransaction
