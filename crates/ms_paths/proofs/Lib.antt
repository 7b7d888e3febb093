pub mod Places
pub mod Reading
pub mod Stepping
pub mod Numbers
pub mod Ways
pub mod Prints
