pub mod Rule
pub mod Scaffolding
