pub mod Published
pub mod Lengths
pub mod Computing
