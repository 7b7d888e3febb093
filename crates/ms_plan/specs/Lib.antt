pub mod Estimates
pub mod Scaffolding
