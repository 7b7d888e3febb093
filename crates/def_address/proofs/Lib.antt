pub mod Computing
pub mod Digits
pub mod Texts
pub mod Base58
pub mod Bech32
pub mod Addresses
