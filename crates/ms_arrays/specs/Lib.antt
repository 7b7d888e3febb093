-- What is given as arrays of bytes: assets, what a plan is made by, and a run.
pub mod Pieces
pub mod ArrayAssets
pub mod ArrayPlan
pub mod ArrayRun
