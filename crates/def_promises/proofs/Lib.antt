pub mod FreshItems
pub mod Unchangeable
