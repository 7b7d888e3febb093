pub mod Limited
pub mod Accepted
pub mod Acceptance
pub mod Letters
pub mod Promises
pub mod Courses
pub mod Reached
pub mod Examples
