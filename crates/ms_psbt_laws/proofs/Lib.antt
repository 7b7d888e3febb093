pub mod Existing
pub mod Keeping
pub mod Sounding
pub mod Wholes
pub mod Sources
pub mod Again
pub mod AloneMaps
pub mod FinalIds
pub mod Others
pub mod PartsWritten
pub mod NetworkTexts
mod Computed
