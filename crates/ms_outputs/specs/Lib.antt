pub mod Keys
pub mod Texts
pub mod Given
pub mod Starts
