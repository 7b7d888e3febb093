-- What only private contracts cite. No public clause cites it, so it need not be believed.
pub mod Left
pub mod Places
pub mod Order
pub mod Walk
pub mod Earliest
pub mod Rows
pub mod Kept
pub mod Again
