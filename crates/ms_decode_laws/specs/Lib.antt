pub mod Printed
pub mod Scaffolding
