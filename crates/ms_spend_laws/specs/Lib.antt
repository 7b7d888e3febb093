pub mod Tried
pub mod KeyHash
pub mod Ready
pub mod Unsatisfied
pub mod Planned
pub mod Verified
