pub mod Adding
pub mod Digests
pub mod Scaffolding
