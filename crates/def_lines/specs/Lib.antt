pub mod Lines
pub mod Question
pub mod Answer
pub mod Answers
pub mod Msat
pub mod Laws
pub mod Examples
