pub mod Seen
pub mod Outcome
pub mod Scaffolding
