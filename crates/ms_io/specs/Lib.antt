pub mod Sides
pub mod Faults
pub mod Calls
pub mod Moves
pub mod Memory
pub mod Reads
pub mod Endings
pub mod Scaffolding
