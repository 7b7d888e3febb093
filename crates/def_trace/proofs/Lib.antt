pub mod Computing
pub mod Places
pub mod Told
pub mod Effects
pub mod Acts
pub mod Rebuilt
pub mod Writing
pub mod Outcomes
