pub mod Sets
pub mod Moved
pub mod Enough
pub mod Order
pub mod Vain
pub mod Alike
pub mod Found
pub mod Plans
