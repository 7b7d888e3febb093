pub mod Marked
pub mod Told
pub mod Few
pub mod FromTwo
pub mod Promised
