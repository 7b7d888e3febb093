pub mod Standing
pub mod Scaffolding
