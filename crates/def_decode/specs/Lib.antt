pub mod Nested
pub mod Decoded
pub mod Alike
pub mod Laws
pub mod Examples
