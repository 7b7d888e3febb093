pub mod Computed
pub mod FileGiven
