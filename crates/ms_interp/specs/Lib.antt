pub mod Scaffolding
pub mod Answering
pub mod Stepping
