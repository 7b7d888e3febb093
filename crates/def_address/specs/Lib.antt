pub mod Digits
pub mod Base58
pub mod Remainder
pub mod Bech32
pub mod DescriptorSum
pub mod Address
pub mod Examples
pub mod Laws
