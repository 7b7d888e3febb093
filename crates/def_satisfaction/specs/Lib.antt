pub mod StackSet
pub mod Setting
pub mod Rows
pub mod Satisfaction
pub mod Samples
pub mod Examples
pub mod Laws
