pub mod Congruence
pub mod Euclid
pub mod Binomials
pub mod Fermat
pub mod Powers
pub mod Pocklington
pub mod FieldPrime
mod OrderPrime
pub mod Inverses
