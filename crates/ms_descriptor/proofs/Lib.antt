pub mod Naming
pub mod Gathering
pub mod Surrounding
pub mod Sampling
pub mod Answering
