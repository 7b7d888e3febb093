pub mod Outcome
pub mod Scaffolding
