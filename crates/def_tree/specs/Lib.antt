pub mod Tree
pub mod Size
pub mod Nodes
pub mod Range
pub mod Laws
pub mod InRange
pub mod Children
