pub mod Prime
pub mod Laws
