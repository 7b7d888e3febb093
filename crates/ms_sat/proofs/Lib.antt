pub mod Lightest
pub mod Promises
