pub mod Behind
pub mod Short
