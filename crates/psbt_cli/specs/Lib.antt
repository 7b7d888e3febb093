pub mod Ends
pub mod Shown
pub mod Promises
pub mod Scaffolding
