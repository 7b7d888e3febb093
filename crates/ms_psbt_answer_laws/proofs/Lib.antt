pub mod Answered
pub mod Computing
pub mod Sane
pub mod Statuses
pub mod Unique
pub mod Written
