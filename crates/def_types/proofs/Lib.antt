pub mod Rows
pub mod Typing
pub mod Facts
