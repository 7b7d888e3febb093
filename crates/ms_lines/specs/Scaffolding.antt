-- What the contracts of private functions speak of. No public clause cites it, so it need not be believed.
pub mod Feeds
pub mod Steps
pub mod Tokens
