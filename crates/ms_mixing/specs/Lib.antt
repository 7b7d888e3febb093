pub mod Scaffolding
