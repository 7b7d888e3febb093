pub mod Emit
pub mod Examples
