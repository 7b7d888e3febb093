pub mod OnLiterals
pub mod Passing
pub mod Strings
pub mod Distinct
pub mod Fits
pub mod Given
pub mod Faults
