-- What the contracts of private functions speak of. No public clause cites it, so it need not be believed.
pub mod Typed
pub mod Found
pub mod Below
pub mod Fitting
