-- What only private contracts cite. No public clause cites it, so it need not be believed.
pub mod Fronts
pub mod Puts
