pub mod Found
pub mod Kept
mod Sounding
mod Locking
pub mod Common
pub mod Whole
pub mod Given
mod Keys
mod Again
