-- The frame of `msat-psbt` for the word `lines`, and what its other words promise.
pub mod Frame
pub mod Promises
