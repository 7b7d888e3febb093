pub mod Accepted
pub mod Enough
pub mod Children
