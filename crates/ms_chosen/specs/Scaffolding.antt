-- What the contracts of private functions speak of. No public clause cites it, so it need not be believed.
pub mod Costs
pub mod Choice
pub mod Children
pub mod Pushed
pub mod Table
pub mod Pushing
pub mod Way
pub mod Count
