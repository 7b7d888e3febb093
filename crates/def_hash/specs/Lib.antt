pub mod Ripemd
pub mod Hash
pub mod Hex
pub mod Examples
pub mod Laws
