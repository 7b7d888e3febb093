pub mod Least
pub mod Strictness
