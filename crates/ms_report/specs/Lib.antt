pub mod Bounds
pub mod Satisfactions
