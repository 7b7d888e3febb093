pub mod Shortest
pub mod Distinct
