pub mod Added
pub mod Room
pub mod Scripts
pub mod Witnessed
pub mod Judged
pub mod KeyCount
pub mod Tables
pub mod Checks
mod Reading
pub mod Places
pub mod Early
pub mod Found
pub mod JudgedBy
pub mod Witnesses
pub mod Nested
