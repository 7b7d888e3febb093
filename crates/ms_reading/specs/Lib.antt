pub mod Candidates
pub mod Scaffolding
