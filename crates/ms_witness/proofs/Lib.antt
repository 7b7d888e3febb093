mod Computed
mod Items
mod Loop
mod Parts
mod Room
pub mod Witnesses
