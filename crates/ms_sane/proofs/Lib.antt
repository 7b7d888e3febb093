pub mod Bounds
pub mod Children
mod Known
mod Rows
