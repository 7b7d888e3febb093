pub mod Answering
pub mod Scaffolding
