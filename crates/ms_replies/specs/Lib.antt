pub mod ChoiceTrees
pub mod Runs
pub mod Answering
