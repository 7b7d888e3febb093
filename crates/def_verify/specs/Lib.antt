pub mod ConsensusHash
pub mod Check
pub mod Final
pub mod Verdict
pub mod Laws
pub mod Examples
