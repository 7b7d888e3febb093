-- What the contracts of private functions speak of. No public clause cites it, so it need not be believed.
pub mod Low
pub mod Kept
pub mod Ready
pub mod Row
pub mod Chosen
pub mod Tops
pub mod Choice
pub mod Tally
