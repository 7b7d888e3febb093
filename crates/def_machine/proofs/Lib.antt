pub mod Computing
pub mod Joined
