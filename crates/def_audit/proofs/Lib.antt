pub mod Erased
pub mod StepNodes
