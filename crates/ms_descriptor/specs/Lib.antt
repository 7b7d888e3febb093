pub mod Expressions
pub mod Miniscripts
pub mod Bodies
