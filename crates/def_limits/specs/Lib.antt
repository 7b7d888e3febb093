pub mod Formal
pub mod Limits
pub mod Laws
pub mod Examples
pub mod Scaffolding
