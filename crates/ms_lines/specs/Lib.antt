pub mod Seen
pub mod Through
pub mod Puts
pub mod Turns
pub mod Starts
pub mod Streams
pub mod Scaffolding
