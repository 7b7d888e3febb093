pub mod Walks
pub mod WalkLeaves
pub mod WalkParts
pub mod WalkTrees
pub mod Canonical
pub mod CanonicalSteps
