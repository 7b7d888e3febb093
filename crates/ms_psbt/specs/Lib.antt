pub mod Seen
pub mod Whole
pub mod Sources
pub mod Pairs
pub mod Scaffolding
