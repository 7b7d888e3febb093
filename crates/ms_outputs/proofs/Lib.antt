pub mod Lists
pub mod Finding
pub mod Versions
pub mod Ordering
pub mod Writing
pub mod Addressed
pub mod Together
pub mod Starting
