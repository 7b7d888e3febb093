pub mod Ends
pub mod Scaffolding
