pub mod Courses
pub mod Rises
pub mod Heights
pub mod Found
pub mod Formals
pub mod Opcodes
pub mod Bounds
