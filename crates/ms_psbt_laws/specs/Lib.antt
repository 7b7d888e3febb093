pub mod Existence
pub mod Written
pub mod Alone
pub mod Agreeing
pub mod Network
