mod Standing
mod Writing
mod Below
mod Tried
mod Families
mod Trying
mod Fitted
pub mod Some
