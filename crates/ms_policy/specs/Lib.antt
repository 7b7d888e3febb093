pub mod Shape
pub mod Scaffolding
