pub mod Assets
pub mod Examples
pub mod Laws
