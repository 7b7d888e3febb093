pub mod Symbols
pub mod Fives
pub mod Rebased
pub mod Reading
pub mod Outputs
pub mod Programs
pub mod Checked
