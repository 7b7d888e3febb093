pub mod Joined
pub mod Combine
pub mod Examples
