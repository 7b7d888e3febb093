mod MovesLemmas
pub mod Holding
