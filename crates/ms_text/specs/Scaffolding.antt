-- What the contracts of private functions speak of. No public clause cites it, so it need not be believed.
pub mod Names
pub mod Words
pub mod Marks
pub mod Place
pub mod Leaves
pub mod Room
pub mod Runs
pub mod Bare
pub mod Forms
