pub mod Unsigned
pub mod Parts
pub mod Scaffolding
