pub mod Seen
mod OneMore
pub mod Telling
mod Wrongs
mod OfRows
mod Places
mod Signing
