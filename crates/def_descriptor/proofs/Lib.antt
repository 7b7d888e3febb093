pub mod Computing
pub mod Tokens
mod Answering
mod Utf8
pub mod Pieces
mod OneAnswer
