pub mod Json
pub mod Parts
pub mod Refusals
pub mod AssetFile
pub mod RunFile
pub mod Laws
pub mod Examples
