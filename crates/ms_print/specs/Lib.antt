pub mod Added
pub mod Scaffolding
