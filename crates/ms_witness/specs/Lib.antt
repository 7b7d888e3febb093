pub mod Reading
pub mod Examples
pub mod Laws
pub mod Replaying
pub mod Answering
