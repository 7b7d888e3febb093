pub mod Modular
pub mod Curve
pub mod Point
pub mod Key
pub mod Encoding
pub mod Ecdsa
pub mod Judgement
pub mod Examples
