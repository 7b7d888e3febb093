pub mod Outline
pub mod Fits
pub mod Examples
