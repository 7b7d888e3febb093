pub mod Counting
mod OnLiterals
pub mod Reading
mod Writing
