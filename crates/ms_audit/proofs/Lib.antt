pub mod Lefts
pub mod Courses
pub mod Equal
