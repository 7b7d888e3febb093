pub mod Coordinates
pub mod Additions
pub mod Bits
