pub mod Rows
pub mod Checked
pub mod Told
pub mod Replaced
pub mod Scaffolding
