-- What the contracts of private functions speak of. No public clause cites it, so it need not be believed.
pub mod Brief
pub mod Taking
