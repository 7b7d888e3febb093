pub mod Places
pub mod Scaffolding
pub mod Sound
