mod Words
mod Names
pub mod Apart
pub mod Printable
