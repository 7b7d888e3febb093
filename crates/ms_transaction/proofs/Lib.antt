pub mod BothSides
pub mod Fronts
pub mod Inputs
pub mod Spelling
