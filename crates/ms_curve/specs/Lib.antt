pub mod Answers
pub mod Scaffolding
