pub mod Course
pub mod Formal
pub mod Height
pub mod Laws
pub mod Examples
pub mod Scaffolding
pub mod Total
