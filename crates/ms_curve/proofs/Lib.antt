mod Chains
mod Roots
mod Bytes
pub mod Checks
mod Abscissas
mod Quotients
