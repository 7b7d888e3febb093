pub mod Laws
pub mod Points
