pub mod Joins
pub mod Truths
pub mod Forms
pub mod Sizes
pub mod Kept
pub mod LeastKeys
