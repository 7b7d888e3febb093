pub mod WithoutKeys
pub mod Public
pub mod Sums
pub mod Laws
