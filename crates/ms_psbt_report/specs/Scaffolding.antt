-- What the contracts of private functions speak of. No public clause cites it, so it need not be believed.
pub mod Sums
pub mod FinalIds
pub mod Told
pub mod Tables
pub mod Words
pub mod Lines
pub mod Written
