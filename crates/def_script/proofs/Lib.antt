pub mod Decoding
pub mod Reading
pub mod Sizing
pub mod VerifyLemmas
pub mod KeyLemmas
