pub mod Place
pub mod Misfits
pub mod Same
pub mod Scaffolding
