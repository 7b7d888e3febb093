-- What the contracts of private functions speak of. No public clause cites it, so it need not be believed.
pub mod Properties
pub mod Children
pub mod Seen
pub mod Signed
pub mod Told
