pub mod Tracing
pub mod Scaffolding
