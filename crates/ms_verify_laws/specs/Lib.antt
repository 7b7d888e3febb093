pub mod Again
pub mod Valid
