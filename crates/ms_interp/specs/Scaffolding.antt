-- What the contracts of private functions speak of: the machine as the code keeps it, and what its parts answer. No
-- public clause cites it, so it need not be believed.
pub mod Stops
pub mod Branches
pub mod Multi
pub mod Compact
pub mod Starting
