pub mod Told
pub mod Verifying
pub mod Scaffolding
