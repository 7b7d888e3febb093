pub mod PiecesLemmas
pub mod Signed
