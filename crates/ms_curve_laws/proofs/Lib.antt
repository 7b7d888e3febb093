pub mod Encodings
pub mod Closure
mod Roots
mod Keys
