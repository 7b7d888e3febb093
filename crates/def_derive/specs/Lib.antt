pub mod Hmac
pub mod Extended
pub mod Child
pub mod Examples
