mod Bounds
mod Leaving
mod Piles
mod Refines
mod Running
pub mod States
mod Tries
