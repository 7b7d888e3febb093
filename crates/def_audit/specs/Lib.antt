pub mod TrailSet
pub mod TrailRows
pub mod Derives
pub mod Examples
pub mod Laws
