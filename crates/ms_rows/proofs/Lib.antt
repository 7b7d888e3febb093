pub mod Readings
pub mod Inside
pub mod Within
