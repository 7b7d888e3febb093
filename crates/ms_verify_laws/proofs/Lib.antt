pub mod Kept
pub mod Runs
pub mod Again
pub mod Valid
