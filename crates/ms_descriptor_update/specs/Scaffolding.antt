-- What only private contracts cite. No public clause cites it, so it need not be believed.
pub mod Once
pub mod Keys
pub mod Steps
pub mod Filling
