pub mod Known
pub mod Book
pub mod Opening
pub mod Scaffolding
