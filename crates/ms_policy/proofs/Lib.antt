pub mod Sums
pub mod Enough
pub mod Bounds
pub mod Seen
pub mod Parts
pub mod Kept
