mod AssetRefusals
mod FewHeld
mod Json
pub mod Refusals
pub mod Repeats
mod RunRefusals
